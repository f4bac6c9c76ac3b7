use Rattle.std.proofs.Common.{inr, [], ◌∷◌, None, Some, sym, ap, ◌∙◌, refl}
use Rattle.std.proofs.lemmas.Result.{err_from_is_err_and}
use Rattle.mx_schema.specs.State.{key_in}
use Rattle.mx_write.specs.Descriptions.{description_fault, new_index_fault}
use Rattle.mx_write.specs.Insert.{inserts_taken}
use Rattle.mx_write.specs.Judged.{unless, ◌>>=◌}
use Rattle.mx_write.specs.Lookup.{all_indexes, own_key}
use Rattle.mx_write.specs.Made.{made}
use Rattle.mx_write.specs.Unique.{are_free}
use Rattle.mx_write.specs.Writes.{Insert}
use Rattle.mx_write.proofs.DescriptionLaws.{can_build}
use Rattle.mx_judge.proofs.MadeLaws.{judged_made}
use Rattle.mx_write.proofs.StageLaws.{goes_on, none_refuses, refused_here, refused_later, refuses_so, went_on}
use Rattle.mx_judge.proofs.EntryStageLaws.{judged_by}
use Rattle.mx_judge.proofs.TargetLaws.{has_key}
use Rattle.mx_write.proofs.WrittenLaws.{own_free}
use Rattle.mx_judge.proofs.NotedFreeLaws.{noted_added}
use Rattle.mx_judge.proofs.insert.add.Goals as goal

pub returns-in_err-check_new_index-clause-judges : goal.returns-in_err-check_new_index-clause-judges
returns-in_err-check_new_index-clause-judges c = λ before target own fits bytes.
    let p = err_from_is_err_and c.from_residual-in_err-check_new_index.result c.from_residual-in_err-check_new_index.ensures.1 in
    let t = c.args.target.now in
    let space = t.scope.space.0 in
    let schema = t.schema.now in
    let primary = t.primary.now in
    let tuple = c.args.tuple.now in
    let key = own_key primary tuple in
    let described = c.in_ok-check_description.ensures before target in
    let free = went_on (are_free before space schema primary None tuple (all_indexes primary schema)) (sym c.in_default.is ∙ c.in_ok-refusal.ensures.finds before target fits bytes) in
    let build = can_build before target.holds.sound space schema primary key tuple (target.stored.sees.state.holds.is ∙ ap Some (sym target.schema)) target.primary own described
    (own_free before space schema primary key tuple target.primary own free) in
    let last = made space (Insert tuple) key (Some tuple) (tuple ∷ []) in
    rw (p.1, p.2) (refused_later (unless (description_fault before space tuple)) (λ _. are_free before space schema primary None tuple (all_indexes primary schema) >>= λ _. unless (new_index_fault before space tuple) >>= λ _. last) tt _
    (none_refuses _ described)
    (refused_later (are_free before space schema primary None tuple (all_indexes primary schema)) (λ _. unless (new_index_fault before space tuple) >>= λ _. last) tt _ free
    (refused_here (unless (new_index_fault before space tuple)) (λ _. last) _ (refuses_so _ _ (c.in_err-check_new_index.ensures before target build)))))

pub returns-clause-judges : goal.returns-clause-judges
returns-clause-judges c = λ before target own fits bytes.
    let t = c.args.target.now in
    let space = t.scope.space.0 in
    let schema = t.schema.now in
    let primary = t.primary.now in
    let tuple = c.args.tuple.now in
    let key = own_key primary tuple in
    let copy = c.in_ok-from_slice.field-0 in
    let is = target.stored.sees.state.holds.is ∙ ap Some (sym target.schema) in
    let described = c.in_ok-check_description.ensures before target in
    let free = went_on (are_free before space schema primary None tuple (all_indexes primary schema)) (sym c.in_default.is ∙ c.in_ok-refusal.ensures.finds before target fits bytes) in
    let build = can_build before target.holds.sound space schema primary key tuple is target.primary own described (own_free before space schema primary key tuple target.primary own free) in
    let last = made space (Insert tuple) key (Some tuple) (tuple ∷ []) in
    judged_by before space (Insert tuple) c.make.result (inserts_taken before space schema primary tuple) (made space (Insert tuple) key (Some copy) (copy ∷ []))
    (goes_on (unless (description_fault before space tuple)) (λ _. are_free before space schema primary None tuple (all_indexes primary schema) >>= λ _. unless (new_index_fault before space tuple) >>= λ _. last) tt
    (none_refuses _ described)
    ∙ goes_on (are_free before space schema primary None tuple (all_indexes primary schema)) (λ _. unless (new_index_fault before space tuple) >>= λ _. last) tt free
    ∙ goes_on (unless (new_index_fault before space tuple)) (λ _. last) tt (none_refuses _ (c.in_ok-check_new_index.ensures before target build))
    ∙ ap (λ t. (made space (Insert tuple) key (Some t) (t ∷ [])).outcome) (sym c.in_ok-from_slice.ensures))
    (judged_made before space (Insert tuple) schema key _ _ _ is fits bytes
    (has_key schema primary key copy target.primary (ap (λ t. key_in primary.key t) c.in_ok-from_slice.ensures ∙ own)) refl c.make.result c.make.ensures)

pub returns-in_err-check_new_index-clause-notes : goal.returns-in_err-check_new_index-clause-notes
returns-in_err-check_new_index-clause-notes c = λ before target own fits bytes.
    let t = c.args.target.now in
    inr (noted_added before t.scope.space.0 t.schema.now t.primary.now c.args.tuple.now c.args.notes.now _
    (c.in_ok-check_description.ensures before target) (c.in_ok-refusal.ensures.notes before target fits bytes))

pub returns-clause-notes : goal.returns-clause-notes
returns-clause-notes c = λ before target own fits bytes.
    let t = c.args.target.now in
    inr (noted_added before t.scope.space.0 t.schema.now t.primary.now c.args.tuple.now c.args.notes.now _
    (c.in_ok-check_description.ensures before target) (c.in_ok-refusal.ensures.notes before target fits bytes))
