use Rattle.std.proofs.Common.{◌≡◌, ◌∙◌, ap, sym}
use Rattle.mx_msgpack.specs.Items.{first_value, after_value}
use Rattle.mx_schema.specs.IndexRows.{part_in_array, part_of_values}
use Rattle.mx_schema.proofs.RowLaws.{two_first}
use Rattle.mx_schema.proofs.part_row.part_in_array.Goals as goal

pub returns : goal.returns
returns c =
    let bytes = c.args.array.bytes.now in
    let second : c.parted-2.result.0.now ≡ first_value (after_value bytes) = c.parted-2.ensures.first ∙ ap first_value c.parted.ensures.after in
    c.part_of_values.ensures ∙ (λ i. part_of_values (c.parted.ensures.first i) (second i))
    ∙ ap part_in_array (sym (two_first c.args.array.count bytes c.if-array-lt2.false))
