use Rattle.std.proofs.Common.{◌≡◌, take}
use Rattle.mx_row.specs.Views.{row_values}
use Rattle.mx_row.proofs.rows.Rows.from_refs.Given as goal

abbrev pub invariant-loop-row : goal.invariant-loop-row
invariant-loop-row l = l.items.items ≡ row_values (take l.row-index l.refs)
