use Rattle.std.proofs.Common.{ℕ, length, nat_cmp}
use Rattle.std.specs.BTreeMap.{get_by}
use Rattle.mx_space.specs.Spaces.{space_under}
use Rattle.mx_space.proofs.HeldLaws.{PartMade}
use Rattle.mx_space.proofs.state.State.new.Given as goal

-- each space is there, or is to come
abbrev pub invariant-loop-id : goal.invariant-loop-id
invariant-loop-id l = (id : ℕ) → PartMade (get_by (nat_cmp id) l.initial.left) (space_under id l.spaces.entries.items) (get_by (nat_cmp id) l.left)

abbrev pub decreases-loop-id : goal.decreases-loop-id
decreases-loop-id l = length l.left.entries
