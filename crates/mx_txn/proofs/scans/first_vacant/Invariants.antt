use Rattle.std.proofs.Common.{ℕ, ◌<◌, ◌≤◌}
use Rattle.std.specs.Prelude.{IsSome}
use Rattle.mx_txn.specs.Views.{state_at}
use Rattle.mx_txn.proofs.scans.first_vacant.Given as goal

abbrev pub invariant-loop-number : goal.invariant-loop-number
invariant-loop-number l = (slot : ℕ) → l.from ≤ slot → slot < l.number → IsSome (state_at l.states slot)
