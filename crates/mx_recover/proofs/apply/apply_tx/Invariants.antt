use Rattle.std.proofs.Common.{◌≡◌}
use Rattle.mx_schema.specs.State as plain
use Rattle.mx_space.specs.Stored.{Holds}
use Rattle.mx_row.specs.Views.{row_values}
use Rattle.mx_recover.specs.Applied.{HasApplied}
use Rattle.mx_recover.proofs.apply.apply_tx.Given as goal

abbrev pub invariant-loop-row : goal.invariant-loop-row
invariant-loop-row l = record {
  applied : (before : plain.State) → Holds l.initial.state before → HasApplied before (row_values l.rows) l.state l.row-index;
  place : l.place ≡ l.row-index;
}
