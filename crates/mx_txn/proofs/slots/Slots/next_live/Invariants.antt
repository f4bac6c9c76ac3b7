use Rattle.std.proofs.Common.{◌≡◌, ℕ, ◌<◌, ◌≤◌, None}
use Rattle.mx_txn.specs.Views.{state_at}
use Rattle.mx_txn.proofs.slots.Slots.next_live.Given as goal

abbrev pub invariant-loop-number : goal.invariant-loop-number
invariant-loop-number l = (slot : ℕ) → l.from ≤ slot → slot < l.number → state_at l.self-inside.states.items slot ≡ None
