use Rattle.std.proofs.Common.{◌≡◌, ◌-◌, ◌≤◌, length, vec_len}
use Rattle.std.specs.Option.{option_map}
use Rattle.mx_msgpack.specs.Readers.{in_front}
use Rattle.mx_row.specs.Limits.{max_rows}
use Rattle.mx_row.specs.Rows.{rows_behind}
use Rattle.mx_row.specs.Views.{row_value, row_values}
use Rattle.mx_row.proofs.BehindLaws.{all_rows}
use Rattle.mx_row.proofs.reading.read_behind.Given as goal

-- all the rows are those so far, and those behind the last of them
abbrev pub invariant-loop-last : goal.invariant-loop-last
invariant-loop-last l = record {
  behind : option_map (in_front (row_value l.first)) (rows_behind (max_rows - 1) l.fn.header l.bytes)
      ≡ all_rows (row_values l.rows.items) (vec_len l.rows) l.last l.rest;
  few : vec_len l.rows ≤ max_rows;
}

abbrev pub decreases-loop-last : goal.decreases-loop-last
decreases-loop-last l = length l.rest
