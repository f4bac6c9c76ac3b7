use Rattle.std.proofs.Common.{◌∙◌, sym}
use Rattle.mx_schema.proofs.RowLaws.{six_fields}
use Rattle.mx_schema.proofs.index_row.fields_of.Goals as goal

pub returns : goal.returns
returns c =
    six_fields c.args.row.now.fields _ _ _ _ _ _ c.in_ok-field.ensures c.in_ok-field-2.ensures c.in_ok-field-3.ensures c.in_ok-field-4.ensures c.in_ok-field-5.ensures
    c.in_ok-field-6.ensures (sym c.count.ensures ∙ c.if-count-ne6.false)
