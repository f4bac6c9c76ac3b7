use Rattle.std.proofs.Common.{◌≡◌, ◌≤◌, ◌++◌, take, option_map}
use Rattle.mx_schema.specs.Picks.{total_bytes, max_result_size}
use Rattle.mx_entries.specs.Windows.{last_key_of}
use Rattle.mx_space.specs.ShownRows.{rows_left}
use Rattle.mx_entries.proofs.WindowLaws.{tuples_of, last_after}
use Rattle.mx_space.proofs.shown_select.collect_shown.Given as goal

-- what was taken and what remains are the whole together
abbrev pub invariant-loop-left : goal.invariant-loop-left
invariant-loop-left l =
    (tuples_of (take l.fn.limit (rows_left l.fn.rows)) ≡ l.tuples ++ tuples_of (take l.left (rows_left l.rows)))
    × (last_key_of (take l.fn.limit (rows_left l.fn.rows)) ≡ last_after (option_map (λ key. key.now) l.last) (take l.left (rows_left l.rows)))
    × (l.bytes ≡ total_bytes l.tuples)
    × (l.bytes ≤ max_result_size)

abbrev pub decreases-loop-left : goal.decreases-loop-left
decreases-loop-left l = l.left
