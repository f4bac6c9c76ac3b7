use Rattle.std.proofs.Common.{◌≡◌, ◌++◌, length, take}
use Rattle.mx_row.specs.Rows.{placed_text}
use Rattle.mx_row.proofs.writing.write_rows.Given as goal

abbrev pub invariant-loop-row : goal.invariant-loop-row
invariant-loop-row l = record {
  written : l.out ≡ l.initial.out ++ placed_text (length l.tx.rows) l.tx.replica.0 l.tx.first.0 0 (take l.row-index l.tx.rows);
  number : l.number ≡ l.row-index;
}
