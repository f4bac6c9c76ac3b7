use Rattle.std.proofs.Common.{length, nat_cmp}
use Rattle.std.specs.BTreeMap.{get_by}
use Rattle.mx_slow_state.proofs.SlowMoveLaws.{PartMoved}
use Rattle.mx_slow_state.proofs.slow_state.move_spaces.Given as goal

-- the last spaces were moved
abbrev pub invariant-loop-id : goal.invariant-loop-id
invariant-loop-id l = PartMoved l.initial.left.items l.left.items (λ q. get_by (nat_cmp q) l.spaces)

abbrev pub decreases-loop-id : goal.decreases-loop-id
decreases-loop-id l = length l.left.items
