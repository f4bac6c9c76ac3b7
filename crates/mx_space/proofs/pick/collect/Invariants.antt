use Rattle.std.proofs.Common.{◌≡◌, ◌≤◌, ◌++◌, map, take, option_map}
use Rattle.mx_schema.specs.Picks.{directed, total_bytes, max_result_size}
use Rattle.mx_entries.specs.Windows.{last_key_of}
use Rattle.mx_space.specs.Selecting.{row_of}
use Rattle.mx_entries.proofs.WindowLaws.{tuples_of, last_after}
use Rattle.mx_space.proofs.pick.collect.Given as goal

-- what was taken and what remains are the whole together
abbrev pub invariant-loop-left : goal.invariant-loop-left
invariant-loop-left l =
    (tuples_of (take l.fn.limit (map (row_of l.fn.source) (directed l.fn.down l.fn.entries))) ≡ l.tuples ++ tuples_of (take l.left (map (row_of l.fn.source) (directed l.fn.down l.entries))))
    × (last_key_of (take l.fn.limit (map (row_of l.fn.source) (directed l.fn.down l.fn.entries)))
    ≡ last_after (option_map (λ key. key.now) l.last) (take l.left (map (row_of l.fn.source) (directed l.fn.down l.entries))))
    × (l.bytes ≡ total_bytes l.tuples)
    × (l.bytes ≤ max_result_size)

abbrev pub decreases-loop-left : goal.decreases-loop-left
decreases-loop-left l = l.left
