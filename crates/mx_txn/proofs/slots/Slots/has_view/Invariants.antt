use Rattle.std.proofs.Common.{◌≢◌, ℕ, ◌<◌, Some}
use Rattle.mx_txn.specs.declared.state.TxnState.TheVariants.{View}
use Rattle.mx_txn.specs.Views.{state_at}
use Rattle.mx_txn.proofs.slots.Slots.has_view.Given as goal

abbrev pub invariant-loop-number : goal.invariant-loop-number
invariant-loop-number l = (slot : ℕ) → slot < l.number → state_at l.self-inside.states.items slot ≢ Some (View l.at)
