-- How slots in memory are seen as open transactions, which only their type and the proofs need.
use Rattle.std.specs.Prelude.{◌≡◌, ℕ, suc, ◌<◌, ◌≤◌, List, [], ◌∷◌, length, Option, Some, None, IsSome, min, slice_index_or}
use Rattle.std.specs.FinMap.{from_entries, insert, len, remove}
use Rattle.mx_txn.specs.declared.state.TxnState.{TxnState}
use Rattle.mx_txn.specs.declared.state.TxnState.TheVariants.{View}
use Rattle.mx_txn.specs.Slots.{max_open, Txns, IsOldestView}

-- what each slot has: a transaction's state, or nothing
abbrev pub States : Type 0
States = List (Option TxnState)

-- the states that are there, each with its number, where the first slot has this number
abbrev pub numbered : ℕ → States → List (ℕ × TxnState)
numbered number [] = []
numbered number (None ∷ states) = numbered (suc number) states
numbered number (Some state ∷ states) = (number, state) ∷ numbered (suc number) states

-- the open transactions
abbrev pub txns_of : States → Txns
txns_of states = from_entries (numbered 0 states)

-- what the slot of this number has
abbrev pub state_at : States → ℕ → Option TxnState
state_at states number = slice_index_or states number None

-- which commit's state a slot's transaction reads, where it has a view
abbrev pub view_in : Option TxnState → Option ℕ
view_in (Some (View at)) = Some at
view_in _ = None

-- the lesser of the numbers that are there
abbrev pub lesser_of : Option ℕ → Option ℕ → Option ℕ
lesser_of None second = second
lesser_of (Some first) None = Some first
lesser_of (Some first) (Some second) = Some (min first second)

-- the open transactions after a slot's state was set, or the slot freed
abbrev pub with_state : Txns → ℕ → Option TxnState → Txns
with_state txns slot None = remove txns slot
with_state txns slot (Some state) = insert txns slot state

-- each slot below this number is live
abbrev pub AreLiveBelow : States → ℕ → Type 0
AreLiveBelow states number = (slot : ℕ) → slot < number → IsSome (state_at states slot)

-- each slot from this number on is vacant
abbrev pub AreVacantFrom : States → ℕ → Type 0
AreVacantFrom states number = (slot : ℕ) → number ≤ slot → state_at states slot ≡ None

-- the first vacant slot from this number on; none where each such slot is live
abbrev pub IsFirstVacant : States → ℕ → Option ℕ → Type 0
IsFirstVacant states from None = (slot : ℕ) → from ≤ slot → slot < max_open → IsSome (state_at states slot)
IsFirstVacant states from (Some vacant) = (from ≤ vacant) × (vacant < max_open) × (state_at states vacant ≡ None) × ((slot : ℕ) → from ≤ slot → slot < vacant → IsSome (state_at states slot))

-- the numbers that are kept beside the states are right
pub record AreCounted (states : States) (live vacant_from used : ℕ) (oldest : Option ℕ) : Type 0 where
  pub whole : length states ≡ max_open
  pub counted : live ≡ len (txns_of states)
  pub taken : AreLiveBelow states vacant_from
  pub vacant : AreVacantFrom states used
  pub bounded : used ≤ max_open
  pub viewed : IsOldestView (txns_of states) oldest
