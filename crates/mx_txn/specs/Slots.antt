-- Open transactions: the state of each, under the number of its slot.
use Rattle.std.specs.Prelude.{◌≡◌, ℕ, ◌<◌, ◌≤◌, Option, Some, None, IsSome}
use Rattle.std.specs.FinMap.{FinMap, get}
use Rattle.std.specs.Ordering.{nat_cmp}
use Rattle.mx_txn.specs.declared.state.TxnState.{TxnState}
use Rattle.mx_txn.specs.declared.state.TxnState.TheVariants.{View}

-- how many transactions may be open
abbrev pub max_open : ℕ
max_open = 1024

-- the state of each open transaction, by the number of its slot
abbrev pub Txns : Type 0
Txns = FinMap nat_cmp TxnState

-- the slot has an open transaction
abbrev pub IsLive : Txns → ℕ → Type 0
IsLive txns slot = IsSome (get txns slot)

-- the slot's transaction reads the state after this commit
abbrev pub HasView : Txns → ℕ → ℕ → Type 0
HasView txns slot at = get txns slot ≡ Some (View at)

-- the least commit whose state a transaction reads; none where no transaction has a view
abbrev pub IsOldestView : Txns → Option ℕ → Type 0
IsOldestView txns None = (slot at : ℕ) → ¬ HasView txns slot at
IsOldestView txns (Some oldest) = ((slot : ℕ) × HasView txns slot oldest) × ((slot at : ℕ) → HasView txns slot at → oldest ≤ at)

-- the first live slot from this number on; none where no such slot is live
abbrev pub IsNextLive : Txns → ℕ → Option ℕ → Type 0
IsNextLive txns from None = (slot : ℕ) → from ≤ slot → get txns slot ≡ None
IsNextLive txns from (Some next) = (from ≤ next) × IsLive txns next × ((slot : ℕ) → from ≤ slot → slot < next → get txns slot ≡ None)
