use Rattle.std.proofs.Common.{◌≡◌, ◌≤◌, ◌++◌, length, filter}
use Rattle.mx_key.specs.Comparable.{holds}
use Rattle.mx_key.specs.Ranges.{descends}
use Rattle.mx_schema.specs.Picks.{directed, window, total_bytes, max_result_size}
use Rattle.mx_schema.specs.Stored.{stored_list}
use Rattle.mx_entries.proofs.WindowLaws.{tuples_of}
use Rattle.mx_slow_state.proofs.slow_state.gather.Given as goal

-- what was taken and what remains are the whole together
abbrev pub invariant-loop-left : goal.invariant-loop-left
invariant-loop-left l =
    (tuples_of (window l.fn.pick.offset l.fn.pick.limit (directed (descends l.fn.pick.iterator) (filter (λ entry. holds l.fn.range entry.0) (stored_list l.fn.kept))))
    ≡ l.tuples ++ tuples_of (window l.offset l.left (directed l.down (filter (λ entry. holds l.fn.range entry.0) (stored_list l.rest)))))
    × (l.bytes ≡ total_bytes l.tuples)
    × (l.bytes ≤ max_result_size)

abbrev pub decreases-loop-left : goal.decreases-loop-left
decreases-loop-left l = length l.rest
