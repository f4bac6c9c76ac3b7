use Rattle.std.proofs.Common.{sym, ◌∙◌, arith}
use Rattle.std.proofs.lemmas.Result.{err_from_is_err_and}
use Rattle.mx_tuple.proofs.CheckLaws.{field_passes, field_fails, none_left}
use Rattle.mx_tuple.proofs.checking.check_fields.Goals as goal

pub loop-place-preserved : goal.loop-place-preserved
loop-place-preserved c =
    let all = c.as_slice-entry-items.ensures.value in
    sym
    (field_passes c.loop-place.place c.entry-item.result c.args.entries.now c.args.tuple.now.fields (rw all at c.loop-place-test.true) (rw all at c.entry-item.is)
    _ c.field.ensures c.in_ok-check_field.ensures)
    ∙ c.loop-place.invariant

pub returns-in_err-check_field : goal.returns-in_err-check_field
returns-in_err-check_field c =
    let all = c.as_slice-entry-items.ensures.value in
    let p = err_from_is_err_and c.from_residual.result c.from_residual.ensures.1 in
    rw (p.1, p.2)
    (sym
    (field_fails c.loop-place.place c.entry-item.result c.args.entries.now c.args.tuple.now.fields (rw all at c.loop-place-test.true) (rw all at c.entry-item.is)
    _ _ c.field.ensures c.in_err-check_field.ensures)
    ∙ c.loop-place.invariant)

pub returns : goal.returns
returns c =
    let all = c.as_slice-entry-items.ensures.value in
    let past = rw all at c.loop-place-test.false in
    let end = rw all at c.loop-place.auto.place-end in
    sym (none_left c.loop-place.place c.args.entries.now _ (omega (arith, past, end)))
    ∙ c.loop-place.invariant
