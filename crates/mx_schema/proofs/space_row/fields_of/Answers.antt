use Rattle.std.proofs.Common.{◌∙◌, sym}
use Rattle.mx_schema.proofs.RowLaws.{seven_fields}
use Rattle.mx_schema.proofs.space_row.fields_of.Goals as goal

pub returns : goal.returns
returns c =
    seven_fields c.args.row.now.fields _ _ _ _ _ _ c.in_ok-field.ensures c.in_ok-field-2.ensures c.in_ok-field-3.ensures c.in_ok-field-4.ensures c.in_ok-field-5.ensures
    c.in_ok-field-6.ensures _ c.in_ok-field-7.ensures (sym c.count.ensures ∙ c.if-count-ne7.false)
