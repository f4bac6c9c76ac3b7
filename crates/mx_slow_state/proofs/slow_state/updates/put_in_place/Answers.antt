use Rattle.std.proofs.Common.{Some, sym, ap, ◌∙◌}
use Rattle.mx_base.specs.declared.refusal.Refusal.TheVariants.{PrimaryKeyChanged}
use Rattle.mx_write.specs.Lookup.{other_indexes}
use Rattle.mx_write.specs.Made.{made}
use Rattle.mx_write.specs.Stages.{shown_if}
use Rattle.mx_write.specs.Unique.{are_free}
use Rattle.mx_write.specs.Update.{put_in_place}
use Rattle.mx_write.specs.Views.{write_view}
use Rattle.mx_judge.proofs.MadeLaws.{judged_made}
use Rattle.mx_judge.proofs.PlaceLaws.{key_changes, key_is, key_stays, not_free, not_same, reaches}
use Rattle.mx_judge.proofs.EntryStageLaws.{judged_by}
use Rattle.mx_write.proofs.StageLaws.{stopped_so, went_on}
use Rattle.mx_judge.proofs.TargetLaws.{has_key}
use Rattle.mx_slow_state.proofs.slow_state.updates.put_in_place.Goals as goal

pub returns-then-ne : goal.returns-then-ne
returns-then-ne c = λ before own is fit bytes same_row.
    let t = c.args.site.now in
    let tuple = c.args.tuple in
    let schema = t.schema.now in
    let primary = t.primary.now in
    let checked = rw c.as_slice.ensures at c.in_ok-new_key.ensures in
    let name = c.in_ok-space.ensures ∙ c.as_slice-then-ne.ensures in
    not_same before t.space.0 schema primary (write_view c.args.write.now) own tuple (shown_if c.args.is_shown tuple) checked.0 _
    (key_changes schema primary tuple c.in_ok-new_key.new_key c.args.key own checked.1 fit bytes (sym c.ne.ensures ∙ c.if-ne.true)
    ∙ ap (λ n. Some (PrimaryKeyChanged n)) (sym name))

pub returns-in-Some : goal.returns-in-Some
returns-in-Some c = λ before own is fit bytes same_row.
    let t = c.args.site.now in
    let tuple = c.args.tuple in
    let schema = t.schema.now in
    let primary = t.primary.now in
    let space = t.space.0 in
    let checked = rw c.as_slice.ensures at c.in_ok-new_key.ensures in
    let told = rw c.as_slice-2.ensures at (c.in_ok-refusal.ensures before (Some own) is (fit, bytes)) in
    not_free before space schema primary (write_view c.args.write.now) own tuple (shown_if c.args.is_shown tuple) checked.0
    (key_stays schema primary tuple c.in_ok-new_key.new_key c.args.key own checked.1 fit bytes (sym c.ne.ensures ∙ c.if-ne.false)) c.in-Some.refusal
    (stopped_so (are_free before space schema primary (Some own) tuple (other_indexes schema.indexes)) c.in-Some.refusal (sym c.in-Some.is ∙ told))

pub returns : goal.returns
returns c = λ before own is fit bytes same_row.
    let t = c.args.site.now in
    let tuple = c.args.tuple in
    let schema = t.schema.now in
    let primary = t.primary.now in
    let space = t.space.0 in
    let write = write_view c.args.write.now in
    let shown = shown_if c.args.is_shown tuple in
    let checked = rw c.as_slice.ensures at c.in_ok-new_key.ensures in
    let told = rw c.as_slice-2.ensures at (c.in_ok-refusal.ensures before (Some own) is (fit, bytes)) in
    let free = went_on (are_free before space schema primary (Some own) tuple (other_indexes schema.indexes)) (sym c.in_default.is ∙ told) in
    let test = sym c.ne.ensures ∙ c.if-ne.false in
    judged_by before space write c.make.result (put_in_place before space schema primary write own tuple shown) (made space write own (Some tuple) shown)
    (reaches before space schema primary write own tuple shown checked.0
    (key_stays schema primary tuple c.in_ok-new_key.new_key c.args.key own checked.1 fit bytes test) free)
    (judged_made before space write schema own _ _ _ is.stored.is fit bytes
    (has_key schema primary own tuple is.primary (key_is schema primary tuple c.in_ok-new_key.new_key c.args.key own checked.1 fit bytes test)) same_row c.make.result c.make.ensures)
