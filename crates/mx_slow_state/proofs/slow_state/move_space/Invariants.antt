use Rattle.std.proofs.Common.{◌≡◌, ◌++◌, length}
use Rattle.mx_schema.specs.Stored.{stored_list}
use Rattle.mx_slow_state.proofs.slow_state.move_space.Given as goal

-- the tuples that were moved, and those to come
abbrev pub invariant-loop-key : goal.invariant-loop-key
invariant-loop-key l = stored_list l.tuples.items ++ l.left.entries ≡ l.initial.left.entries

abbrev pub decreases-loop-key : goal.decreases-loop-key
decreases-loop-key l = length l.left.entries
