use Rattle.std.proofs.Common.{◌≡◌, ℕ, ◌≤◌, length}
use Rattle.std.specs.BTreeMap as tree
use Rattle.std.specs.Ordering.{nat_cmp}
use Rattle.mx_space.proofs.kept_states.KeptStates.drop_before.Given as goal

abbrev pub invariant-loop-commits : goal.invariant-loop-commits
invariant-loop-commits l = (q : ℕ) → l.oldest ≤ q → tree.get nat_cmp l.self.states q ≡ tree.get nat_cmp l.initial.self.states q

abbrev pub decreases-loop-commits : goal.decreases-loop-commits
decreases-loop-commits l = length l.self.states.entries
