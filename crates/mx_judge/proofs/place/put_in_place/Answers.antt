use Rattle.std.proofs.Common.{inr, Some, sym, ap, ◌∙◌}
use Rattle.std.proofs.lemmas.Result.{err_from_is_err_and}
use Rattle.mx_base.specs.declared.refusal.Refusal.TheVariants.{PrimaryKeyChanged}
use Rattle.mx_write.specs.Lookup.{other_indexes}
use Rattle.mx_write.specs.Made.{made}
use Rattle.mx_write.specs.Stages.{shown_if}
use Rattle.mx_write.specs.Unique.{are_free}
use Rattle.mx_write.specs.Update.{put_in_place}
use Rattle.mx_write.specs.Views.{write_view}
use Rattle.mx_judge.proofs.MadeLaws.{judged_made}
use Rattle.mx_judge.proofs.PlaceLaws.{key_changes, key_is, key_stays, not_free, not_same, reaches}
use Rattle.mx_judge.proofs.EntryStageLaws.{judged_by}
use Rattle.mx_write.proofs.StageLaws.{stopped_so, went_on}
use Rattle.mx_judge.proofs.TargetLaws.{has_key}
use Rattle.mx_write.proofs.NoteLaws.{as_result}
use Rattle.mx_judge.proofs.NotedFreeLaws.{noted_not_taken, noted_other_key, noted_same_key}
use Rattle.mx_judge.proofs.place.put_in_place.Goals as goal

pub returns-then-ne-clause-judges : goal.returns-then-ne-clause-judges
returns-then-ne-clause-judges c = λ before own target fit bytes same_row.
    let t = c.args.target.now in
    let tuple = c.args.tuple in
    let schema = t.schema.now in
    let primary = t.primary.now in
    let checked = rw c.as_slice.ensures at c.in_ok-new_key.ensures in
    let name = c.in_ok-space.ensures ∙ c.as_slice-then-ne.ensures in
    not_same before t.scope.space.0 schema primary (write_view c.args.write.now) own tuple (shown_if c.args.is_shown tuple) checked.0 _
    (key_changes schema primary tuple c.in_ok-new_key.new_key c.args.key own checked.1 fit bytes (sym c.ne.ensures ∙ c.if-ne.true)
    ∙ ap (λ n. Some (PrimaryKeyChanged n)) (sym name))

pub returns-in-Some-clause-judges : goal.returns-in-Some-clause-judges
returns-in-Some-clause-judges c = λ before own target fit bytes same_row.
    let t = c.args.target.now in
    let tuple = c.args.tuple in
    let schema = t.schema.now in
    let primary = t.primary.now in
    let space = t.scope.space.0 in
    let checked = rw c.as_slice.ensures at c.in_ok-new_key.ensures in
    let told = rw c.as_slice-2.ensures at (c.in_ok-refusal.ensures.finds before (Some own) target (fit, bytes)) in
    not_free before space schema primary (write_view c.args.write.now) own tuple (shown_if c.args.is_shown tuple) checked.0
    (key_stays schema primary tuple c.in_ok-new_key.new_key c.args.key own checked.1 fit bytes (sym c.ne.ensures ∙ c.if-ne.false)) c.in-Some.refusal
    (stopped_so (are_free before space schema primary (Some own) tuple (other_indexes schema.indexes)) c.in-Some.refusal (sym c.in-Some.is ∙ told))

pub returns-clause-judges : goal.returns-clause-judges
returns-clause-judges c = λ before own target fit bytes same_row.
    let t = c.args.target.now in
    let tuple = c.args.tuple in
    let schema = t.schema.now in
    let primary = t.primary.now in
    let space = t.scope.space.0 in
    let write = write_view c.args.write.now in
    let shown = shown_if c.args.is_shown tuple in
    let checked = rw c.as_slice.ensures at c.in_ok-new_key.ensures in
    let told = rw c.as_slice-2.ensures at (c.in_ok-refusal.ensures.finds before (Some own) target (fit, bytes)) in
    let free = went_on (are_free before space schema primary (Some own) tuple (other_indexes schema.indexes)) (sym c.in_default.is ∙ told) in
    let test = sym c.ne.ensures ∙ c.if-ne.false in
    judged_by before space write c.make.result (put_in_place before space schema primary write own tuple shown) (made space write own (Some tuple) shown)
    (reaches before space schema primary write own tuple shown checked.0
    (key_stays schema primary tuple c.in_ok-new_key.new_key c.args.key own checked.1 fit bytes test) free)
    (judged_made before space write schema own _ _ _ (target.stored.sees.state.holds.is ∙ ap Some (sym target.schema)) fit bytes
    (has_key schema primary own tuple target.primary (key_is schema primary tuple c.in_ok-new_key.new_key c.args.key own checked.1 fit bytes test)) same_row c.make.result c.make.ensures)

pub returns-in_err-new_key-clause-notes : goal.returns-in_err-new_key-clause-notes
returns-in_err-new_key-clause-notes c = λ before own target fit bytes.
    let p = err_from_is_err_and c.from_residual.result c.from_residual.ensures.1 in
    let t = c.args.target.now in
    let tuple = c.args.tuple in
    let why = c.in_err-new_key.field-0.0 in
    rw (p.1, p.2) (as_result why (noted_not_taken before t.scope.space.0 t.schema.now t.primary.now (write_view c.args.write.now) own tuple (shown_if c.args.is_shown tuple) c.args.notes.now why
    (rw c.as_slice.ensures at c.in_err-new_key.ensures)))

pub returns-then-ne-clause-notes : goal.returns-then-ne-clause-notes
returns-then-ne-clause-notes c = λ before own target fit bytes.
    let t = c.args.target.now in
    let tuple = c.args.tuple in
    let checked = rw c.as_slice.ensures at c.in_ok-new_key.ensures in
    inr (noted_other_key before t.scope.space.0 t.schema.now t.primary.now (write_view c.args.write.now) own tuple (shown_if c.args.is_shown tuple) c.args.notes.now checked.0 _
    (key_changes t.schema.now t.primary.now tuple c.in_ok-new_key.new_key c.args.key own checked.1 fit bytes (sym c.ne.ensures ∙ c.if-ne.true)))

pub returns-in-Some-clause-notes : goal.returns-in-Some-clause-notes
returns-in-Some-clause-notes c = λ before own target fit bytes.
    let t = c.args.target.now in
    let tuple = c.args.tuple in
    let checked = rw c.as_slice.ensures at c.in_ok-new_key.ensures in
    inr (noted_same_key before t.scope.space.0 t.schema.now t.primary.now (write_view c.args.write.now) own tuple (shown_if c.args.is_shown tuple) c.args.notes.now checked.0 _
    (key_stays t.schema.now t.primary.now tuple c.in_ok-new_key.new_key c.args.key own checked.1 fit bytes (sym c.ne.ensures ∙ c.if-ne.false))
    (rw c.as_slice-2.ensures at (c.in_ok-refusal.ensures.notes before (Some own) target (fit, bytes))))

pub returns-clause-notes : goal.returns-clause-notes
returns-clause-notes c = λ before own target fit bytes.
    let t = c.args.target.now in
    let tuple = c.args.tuple in
    let checked = rw c.as_slice.ensures at c.in_ok-new_key.ensures in
    inr (noted_same_key before t.scope.space.0 t.schema.now t.primary.now (write_view c.args.write.now) own tuple (shown_if c.args.is_shown tuple) c.args.notes.now checked.0 _
    (key_stays t.schema.now t.primary.now tuple c.in_ok-new_key.new_key c.args.key own checked.1 fit bytes (sym c.ne.ensures ∙ c.if-ne.false))
    (rw c.as_slice-2.ensures at (c.in_ok-refusal.ensures.notes before (Some own) target (fit, bytes))))
