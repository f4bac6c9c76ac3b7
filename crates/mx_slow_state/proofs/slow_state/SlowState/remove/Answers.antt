use Rattle.std.proofs.Common.{[], ◌∷◌, Some, None, sym, ap, ◌∙◌, subst}
use Rattle.std.proofs.lemmas.Result.{err_from_is_err_and}
use Rattle.mx_row.specs.Rows.{delete_type}
use Rattle.mx_schema.specs.State.{key_in}
use Rattle.mx_write.specs.declared.writable.Writer.TheVariants.{Client}
use Rattle.mx_write.specs.Delete.{delete_found}
use Rattle.mx_write.specs.Descriptions.{drop_fault}
use Rattle.mx_write.specs.Judged.{unless, ◌>>=◌}
use Rattle.mx_write.specs.Made.{made, row_with}
use Rattle.mx_judge.specs.Makes.{JudgesMade}
use Rattle.mx_write.specs.Stages.{Refuses}
use Rattle.mx_write.specs.Writable.{write_refusal}
use Rattle.mx_write.specs.Writes.{Delete}
use Rattle.mx_judge.proofs.MadeLaws.{judged_made}
use Rattle.mx_write.proofs.StageLaws.{goes_on, none_refuses, refused_here, refused_later, refuses_so}
use Rattle.mx_judge.proofs.EntryStageLaws.{judged_by}
use Rattle.mx_slow_state.proofs.slow_state.SlowState.remove.Goals as goal

pub returns-in_err-check_drop : goal.returns-in_err-check_drop
returns-in_err-check_drop c = λ before own keeps is fit bytes has.
    let p = err_from_is_err_and c.from_residual.result c.from_residual.ensures.1 in
    let space = c.args.site.now.space.0 in
    let old = c.args.one.now.tuple in
    let last = made space (Delete c.args.index.0 c.args.key.now) own None (old ∷ []) in
    let may = ap (λ t. write_refusal Client space delete_type (Some t)) (sym c.as_slice-old.ensures) ∙ sym c.write_refusal.ensures ∙ c.in_default.is in
    rw (p.1, p.2) (refused_later (unless (write_refusal Client space delete_type (Some old))) (λ _. unless (drop_fault before space old) >>= λ _. last) tt _ (none_refuses _ may)
    (refused_here (unless (drop_fault before space old)) (λ _. last) _
    (refuses_so _ _ (subst (λ t. Refuses c.in_err-check_drop.field-0.0 (drop_fault before space t)) c.as_slice-old.ensures (c.in_err-check_drop.ensures before keeps)))))

pub returns : goal.returns
returns c = λ before own keeps is fit bytes has.
    let site = c.args.site.now in
    let space = site.space.0 in
    let index = c.args.index.0 in
    let key = c.args.key.now in
    let old = c.args.one.now.tuple in
    let write = Delete index key in
    let last = made space write own None (old ∷ []) in
    let may = ap (λ t. write_refusal Client space delete_type (Some t)) (sym c.as_slice-old.ensures) ∙ sym c.write_refusal.ensures ∙ c.in_default.is in
    let goes = ap (drop_fault before space) (sym c.as_slice-old.ensures) ∙ c.in_ok-check_drop.ensures before keeps in
    let copied = c.in_ok-tuple.ensures ∙ c.as_slice-old.ensures in
    judged_by before space write c.make.result (delete_found Client before space index key (Some (own, old))) last
    (goes_on (unless (write_refusal Client space delete_type (Some old))) (λ _. unless (drop_fault before space old) >>= λ _. last) tt (none_refuses _ may)
    ∙ goes_on (unless (drop_fault before space old)) (λ _. last) tt (none_refuses _ goes))
    (subst (λ t. JudgesMade before space write c.make.result (made space write own None (t ∷ []))) copied
    (judged_made before space write site.schema.now own _ _ _ is.stored.is fit (c.in_ok-own.ensures ∙ c.as_slice.ensures ∙ bytes) tt
    (ap (row_with space write) (c.in_ok-array.ensures own (ap (key_in site.primary.now.key) c.as_slice-old.ensures ∙ has))) c.make.result c.make.ensures))
