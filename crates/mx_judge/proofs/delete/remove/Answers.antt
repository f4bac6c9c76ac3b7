use Rattle.std.proofs.Common.{[], ◌∷◌, Some, None, sym, ap, ◌∙◌}
use Rattle.std.proofs.lemmas.Result.{err_from_is_err_and}
use Rattle.mx_row.specs.Rows.{delete_type}
use Rattle.mx_write.specs.Judged.{unless, ◌>>=◌}
use Rattle.mx_write.specs.Made.{made, row_with}
use Rattle.mx_write.specs.Descriptions.{drop_fault}
use Rattle.mx_write.specs.Writable.{write_refusal}
use Rattle.mx_write.specs.Writes.{Delete}
use Rattle.mx_write.proofs.FieldLaws.{key_by_fields}
use Rattle.mx_judge.proofs.MadeLaws.{judged_made}
use Rattle.mx_write.proofs.StageLaws.{goes_on, none_refuses, refused_here, refused_later, refuses_so}
use Rattle.mx_judge.proofs.EntryStageLaws.{judged_by}
use Rattle.mx_judge.proofs.delete.remove.Goals as goal

pub returns-in_err-check_drop : goal.returns-in_err-check_drop
returns-in_err-check_drop c = λ before own target fit bytes has.
    let p = err_from_is_err_and c.from_residual.result c.from_residual.ensures.1 in
    let t = c.args.target.now in
    let space = t.scope.space.0 in
    let old = c.args.entry.tuple.now in
    let writable = sym c.write_refusal.ensures ∙ c.in_default.is in
    let stage = unless (write_refusal t.scope.writer space delete_type (Some old)) in
    rw (p.1, p.2) (refused_later stage (λ _. unless (drop_fault before space old) >>= λ _. made space (Delete c.args.index.0 c.args.key.now) own None (old ∷ [])) tt _
    (none_refuses _ writable)
    (refused_here (unless (drop_fault before space old)) (λ _. made space (Delete c.args.index.0 c.args.key.now) own None (old ∷ [])) _
    (refuses_so _ _ (c.in_err-check_drop.ensures before target.holds))))

pub returns : goal.returns
returns c = λ before own target fit bytes has.
    let t = c.args.target.now in
    let space = t.scope.space.0 in
    let old = c.args.entry.tuple.now in
    let write = Delete c.args.index.0 c.args.key.now in
    let copy = c.in_ok-tuple.tuple in
    let stage = unless (write_refusal t.scope.writer space delete_type (Some old)) in
    let next = unless (drop_fault before space old) in
    let writable = sym c.write_refusal.ensures ∙ c.in_default.is in
    let array = c.in_ok-row_key.ensures own (key_by_fields c.array_or_empty.result.now old c.array_or_empty.ensures.items t.primary.now own has) in
    judged_by before space write c.make.result (stage >>= λ _. next >>= λ _. made space write own None (old ∷ [])) (made space write own None (copy ∷ []))
    (goes_on stage (λ _. next >>= λ _. made space write own None (old ∷ [])) tt (none_refuses _ writable)
    ∙ goes_on next (λ _. made space write own None (old ∷ [])) tt (none_refuses _ (c.in_ok-check_drop.ensures before target.holds))
    ∙ ap (λ o. (made space write own None (o ∷ [])).outcome) (sym c.in_ok-tuple.ensures))
    (judged_made before space write t.schema.now own _ _ _ (target.stored.sees.state.holds.is ∙ ap Some (sym target.schema)) fit bytes tt (ap (row_with space write) array) c.make.result c.make.ensures)
