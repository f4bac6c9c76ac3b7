use Rattle.std.proofs.Common.{[], ◌∷◌, None, Some, refl, sym, ◌∙◌}
use Rattle.std.proofs.lemmas.Result.{err_from_is_err_and}
use Rattle.mx_write.specs.Descriptions.{description_fault, new_index_fault}
use Rattle.mx_write.specs.Insert.{inserts_taken}
use Rattle.mx_write.specs.Judged.{unless, ◌>>=◌}
use Rattle.mx_write.specs.Lookup.{all_indexes, own_key}
use Rattle.mx_write.specs.Made.{made}
use Rattle.mx_write.specs.Unique.{are_free}
use Rattle.mx_write.specs.Writes.{Insert}
use Rattle.mx_write.proofs.DescriptionLaws.{can_build}
use Rattle.mx_write.proofs.StageLaws.{goes_on, none_refuses, refused_here, refused_later, refuses_so, stopped_so, went_on}
use Rattle.mx_judge.proofs.EntryStageLaws.{judged_by}
use Rattle.mx_judge.proofs.TargetLaws.{own_has}
use Rattle.mx_write.proofs.WrittenLaws.{own_free}
use Rattle.mx_slow_state.proofs.slow_state.SlowState.add.Goals as goal

pub returns-in_err-check_description : goal.returns-in_err-check_description
returns-in_err-check_description c = λ before keeps sound is has.
    let p = err_from_is_err_and c.from_residual.result c.from_residual.ensures.1 in
    let site = c.args.site.now in
    let space = site.space.0 in
    let schema = site.schema.now in
    let primary = site.primary.now in
    let tuple = c.args.tuple.now in
    let last = made space (Insert tuple) (own_key primary tuple) (Some tuple) (tuple ∷ []) in
    rw (p.1, p.2) (refused_here (unless (description_fault before space tuple)) (λ _. are_free before space schema primary None tuple (all_indexes primary schema) >>= λ _. unless (new_index_fault before space tuple) >>= λ _. last) _
    (refuses_so _ _ (c.in_err-check_description.ensures before keeps)))

pub returns-in-Some : goal.returns-in-Some
returns-in-Some c = λ before keeps sound is has.
    let site = c.args.site.now in
    let space = site.space.0 in
    let schema = site.schema.now in
    let primary = site.primary.now in
    let tuple = c.args.tuple.now in
    let last = made space (Insert tuple) (own_key primary tuple) (Some tuple) (tuple ∷ []) in
    let described = c.in_ok-check_description.ensures before keeps in
    let free = are_free before space schema primary None tuple (all_indexes primary schema) in
    refused_later (unless (description_fault before space tuple)) (λ _. free >>= λ _. unless (new_index_fault before space tuple) >>= λ _. last) tt c.in-Some.refusal (none_refuses _ described)
    (refused_here free (λ _. unless (new_index_fault before space tuple) >>= λ _. last) c.in-Some.refusal
    (stopped_so free c.in-Some.refusal (sym c.in-Some.is ∙ c.in_ok-refusal.ensures before is has)))

pub returns-in_err-check_new_index : goal.returns-in_err-check_new_index
returns-in_err-check_new_index c = λ before keeps sound is has.
    let p = err_from_is_err_and c.from_residual-in_err-check_new_index.result c.from_residual-in_err-check_new_index.ensures.1 in
    let site = c.args.site.now in
    let space = site.space.0 in
    let schema = site.schema.now in
    let primary = site.primary.now in
    let tuple = c.args.tuple.now in
    let key = own_key primary tuple in
    let last = made space (Insert tuple) key (Some tuple) (tuple ∷ []) in
    let described = c.in_ok-check_description.ensures before keeps in
    let stage = are_free before space schema primary None tuple (all_indexes primary schema) in
    let free = went_on stage (sym c.in_default.is ∙ c.in_ok-refusal.ensures before is has) in
    let own = own_has primary tuple _ has in
    let build = can_build before sound space schema primary key tuple is.stored.is is.primary own described (own_free before space schema primary key tuple is.primary own free) in
    rw (p.1, p.2) (refused_later (unless (description_fault before space tuple)) (λ _. stage >>= λ _. unless (new_index_fault before space tuple) >>= λ _. last) tt _ (none_refuses _ described)
    (refused_later stage (λ _. unless (new_index_fault before space tuple) >>= λ _. last) tt _ free
    (refused_here (unless (new_index_fault before space tuple)) (λ _. last) _ (refuses_so _ _ (c.in_err-check_new_index.ensures before keeps build)))))

pub returns : goal.returns
returns c = λ before keeps sound is has.
    let site = c.args.site.now in
    let space = site.space.0 in
    let schema = site.schema.now in
    let primary = site.primary.now in
    let tuple = c.args.tuple.now in
    let key = own_key primary tuple in
    let last = made space (Insert tuple) key (Some tuple) (tuple ∷ []) in
    let described = c.in_ok-check_description.ensures before keeps in
    let stage = are_free before space schema primary None tuple (all_indexes primary schema) in
    let free = went_on stage (sym c.in_default.is ∙ c.in_ok-refusal.ensures before is has) in
    let own = own_has primary tuple _ has in
    let build = can_build before sound space schema primary key tuple is.stored.is is.primary own described (own_free before space schema primary key tuple is.primary own free) in
    judged_by before space (Insert tuple) c.put_copy.result (inserts_taken before space schema primary tuple) last
    (goes_on (unless (description_fault before space tuple)) (λ _. stage >>= λ _. unless (new_index_fault before space tuple) >>= λ _. last) tt (none_refuses _ described)
    ∙ goes_on stage (λ _. unless (new_index_fault before space tuple) >>= λ _. last) tt free
    ∙ goes_on (unless (new_index_fault before space tuple)) (λ _. last) tt (none_refuses _ (c.in_ok-check_new_index.ensures before keeps build)))
    (c.put_copy.ensures before is has refl)
