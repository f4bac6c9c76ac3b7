use Rattle.std.proofs.Common.{◌≡◌, false, take}
use Rattle.std.specs.List.{list_any}
use Rattle.mx_row.specs.Views.{row_values}
use Rattle.mx_model.specs.Transactions.{is_schema_row}
use Rattle.mx_recover.proofs.replay.has_schema_row.Given as goal

abbrev pub invariant-loop-row : goal.invariant-loop-row
invariant-loop-row l = list_any is_schema_row (row_values (take l.row-index l.rows)) ≡ false
