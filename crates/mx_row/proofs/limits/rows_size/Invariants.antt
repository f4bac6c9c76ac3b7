use Rattle.std.proofs.Common.{◌≡◌, ◌≤◌, ◌<◌, ◌^◌, ◌-◌, take}
use Rattle.mx_row.specs.Limits.{rows_size}
use Rattle.mx_row.specs.Views.{row_values}
use Rattle.mx_row.proofs.limits.rows_size.Given as goal

-- the size of the rows so far
abbrev pub invariant-loop-row : goal.invariant-loop-row
invariant-loop-row l = record {
  exact : rows_size (row_values (take l.row-index l.rows)) < 2 ^ 64 → l.size ≡ rows_size (row_values (take l.row-index l.rows));
  most : 2 ^ 64 ≤ rows_size (row_values (take l.row-index l.rows)) → l.size ≡ 2 ^ 64 - 1;
}
