-- Which open transactions the states of slots are, and what a change of one slot makes of them.
use Rattle.std.proofs.Common.{◌≡◌, ◌≢◌, ◌⊎◌, ℕ, zero, suc, ◌+◌, ◌-◌, ◌<◌, ◌≤◌, cond, [], ◌∷◌, length, get_or, set, take, Option, Some, None, is_some, refl, sym, ap, ◌∙◌, inl, inr, zero-add, arith}
use Rattle.std.specs.Prelude.{IsSome}
use Rattle.std.specs.Cmp.{nat_cmp_total}
use Rattle.std.specs.FinMap.{find, from_entries, get, insert, remove, len, get-from_entries, get-insert, get-remove, len-empty, len-insert, len-remove, empty_of_len, get-empty, empty, same_map, nat_cmp-IsAntisymmetric}
use Rattle.std.specs.Ordering.{nat_cmp, eq_by_cmp}
use Rattle.std.proofs.lemmas.Bool.{cases_eq, cases_lt}
use Rattle.std.proofs.lemmas.Bool.Decides.{nat_tests}
use Rattle.std.proofs.lemmas.List.{get_or-set_same, get_or-set_other, get_or-take, get_or_past, length-take}
use Rattle.mx_txn.specs.declared.state.TxnState.{TxnState}
use Rattle.mx_txn.specs.Slots.{Txns, IsLive}
use Rattle.mx_txn.specs.Views.{States, numbered, txns_of, state_at, with_state, AreLiveBelow, AreVacantFrom}

absent : (number q : ℕ) (states : States) → q < number → find nat_cmp q (numbered number states) ≡ None
absent number q [] below = refl
absent number q (None ∷ states) below = absent (suc number) q states (omega arith)
absent number q (Some state ∷ states) below =
    let later = absent (suc number) q states (omega arith) in
    grind (arith, nat_tests)

found : (number q : ℕ) (states : States) → find nat_cmp (number + q) (numbered number states) ≡ get_or states q None
found number q [] = refl
found number zero (None ∷ states) = absent (suc number) (number + 0) states (omega arith)
found number (suc q) (None ∷ states) =
    let later = found (suc number) q states in
    let same : number + suc q ≡ suc number + q = omega arith in
    rw same later
found number zero (Some state ∷ states) = grind (arith, nat_tests)
found number (suc q) (Some state ∷ states) =
    let later = found (suc number) q states in
    let same : number + suc q ≡ suc number + q = omega arith in
    grind (arith, nat_tests)

-- a slot's transaction is what its state is
pub get-txns_of : (states : States) (slot : ℕ) → get (txns_of states) slot ≡ state_at states slot
get-txns_of states slot =
    get-from_entries nat_cmp_total (numbered 0 states) slot
    ∙ ap (λ q. find nat_cmp q (numbered 0 states)) (sym (zero-add slot))
    ∙ found 0 slot states

-- open transactions with the same state in each slot are the same
pub same_txns : (before after : Txns) → ((slot : ℕ) → get before slot ≡ get after slot) → before ≡ after
same_txns = same_map nat_cmp_total nat_cmp-IsAntisymmetric

-- what a slot has after one slot's change
pub get-with_state : (txns : Txns) (slot : ℕ) (state : Option TxnState) (other : ℕ) → get (with_state txns slot state) other ≡ cond (eq_by_cmp nat_cmp other slot) state (get txns other)
get-with_state txns slot None other = get-remove nat_cmp_total txns slot other
get-with_state txns slot (Some state) other = get-insert nat_cmp_total txns slot state other

pub get-with_state_same : (txns : Txns) (slot : ℕ) (state : Option TxnState) → get (with_state txns slot state) slot ≡ state
get-with_state_same txns slot state =
    let at = get-with_state txns slot state slot in
    grind (arith, nat_tests)

pub get-with_state_other : (txns : Txns) (slot : ℕ) (state : Option TxnState) (other : ℕ) → other ≢ slot → get (with_state txns slot state) other ≡ get txns other
get-with_state_other txns slot state other differs =
    let at = get-with_state txns slot state other in
    grind (arith, nat_tests)

-- one slot's change, in memory and of the open transactions
pub txns_of-set : (states : States) (slot : ℕ) (state : Option TxnState) → slot < length states → txns_of (set states slot state) ≡ with_state (txns_of states) slot state
txns_of-set states slot state within = same_txns _ _ (λ other. get-txns_of (set states slot state) other ∙ by_place other (cases_eq other slot))
  where
    by_place : (other : ℕ) → (other ≡ slot) ⊎ (other ≡ slot → ⊥) → state_at (set states slot state) other ≡ get (with_state (txns_of states) slot state) other
    by_place other (inl same) =
        ap (state_at (set states slot state)) same
        ∙ get_or-set_same states slot state None within
        ∙ sym (get-with_state_same (txns_of states) slot state)
        ∙ ap (get (with_state (txns_of states) slot state)) (sym same)
    by_place other (inr differs) =
        get_or-set_other states slot other state None differs
        ∙ sym (get-txns_of states other)
        ∙ sym (get-with_state_other (txns_of states) slot state other differs)

-- slots that are vacant from a number on may be left out
pub txns_of-take : (states : States) (number : ℕ) → AreVacantFrom states number → txns_of (take number states) ≡ txns_of states
txns_of-take states number vacant = same_txns _ _ (λ slot. get-txns_of (take number states) slot ∙ by_place slot (cases_lt slot number) ∙ sym (get-txns_of states slot))
  where
    by_place : (slot : ℕ) → (slot < number) ⊎ (number ≤ slot) → state_at (take number states) slot ≡ state_at states slot
    by_place slot (inl below) = get_or-take number states slot None below
    by_place slot (inr past) =
        get_or_past (take number states) slot None (omega (arith, length-take number states))
        ∙ sym (vacant slot past)

absent_before : (number : ℕ) (states : States) → get (from_entries {R = nat_cmp} (numbered (suc number) states)) number ≡ None
absent_before number states = get-from_entries nat_cmp_total (numbered (suc number) states) number ∙ absent (suc number) number states (omega arith)

len-pushed : (number : ℕ) (state : TxnState) (states : States)
    → len (from_entries {R = nat_cmp} ((number, state) ∷ numbered (suc number) states)) ≡ suc (len (from_entries {R = nat_cmp} (numbered (suc number) states)))
len-pushed number state states =
    let rest = from_entries {R = nat_cmp} (numbered (suc number) states) in
    let grown = len-insert nat_cmp_total rest number state in
    let more : len (insert rest number state) ≡ len rest + 1 = grown ∙ ap (λ o. cond (is_some o) (len rest) (len rest + 1)) (absent_before number states) in
    omega arith

len-numbered-le : (number : ℕ) (states : States) → len (from_entries {R = nat_cmp} (numbered number states)) ≤ length states
len-numbered-le number [] = let none = len-empty nat_cmp TxnState in omega arith
len-numbered-le number (None ∷ states) = let rest = len-numbered-le (suc number) states in omega arith
len-numbered-le number (Some state ∷ states) =
    let rest = len-numbered-le (suc number) states in
    let pushed = len-pushed number state states in
    omega arith

-- no more transactions are open than there are slots
pub len-txns_of-le : (states : States) → len (txns_of states) ≤ length states
len-txns_of-le states = len-numbered-le 0 states

len-numbered_full : (number : ℕ) (states : States) → AreLiveBelow states (length states) → len (from_entries {R = nat_cmp} (numbered number states)) ≡ length states
len-numbered_full number [] live = len-empty nat_cmp TxnState
len-numbered_full number (None ∷ states) live = let first = live 0 (omega arith) in absurd (cc)
len-numbered_full number (Some state ∷ states) live =
    let rest = len-numbered_full (suc number) states (λ slot within. live (suc slot) (omega arith)) in
    let pushed = len-pushed number state states in
    omega arith

-- where each slot is live, as many transactions are open as there are slots
pub len-txns_of_full : (states : States) → AreLiveBelow states (length states) → len (txns_of states) ≡ length states
len-txns_of_full states live = len-numbered_full 0 states live

-- a transaction more, and one less
pub len-insert_new : (txns : Txns) (slot : ℕ) (state : TxnState) → get txns slot ≡ None → len (insert txns slot state) ≡ len txns + 1
len-insert_new txns slot state vacant = len-insert nat_cmp_total txns slot state ∙ ap (λ o. cond (is_some o) (len txns) (len txns + 1)) vacant

pub len-insert_live : (txns : Txns) (slot : ℕ) (state : TxnState) → IsSome (get txns slot) → len (insert txns slot state) ≡ len txns
len-insert_live txns slot state live = len-insert nat_cmp_total txns slot state ∙ ap (λ b. cond b (len txns) (len txns + 1)) live

len-positive : (txns : Txns) (slot : ℕ) → IsSome (get txns slot) → 0 < len txns
len-positive txns slot live = elim (cases_lt 0 (len txns)) [
  | inl some ↦ some
  | inr none ↦
      let no_txn : txns ≡ empty = empty_of_len txns (omega arith) in
      let vacant : get txns slot ≡ None = ap (λ t. get t slot) no_txn ∙ get-empty nat_cmp slot in
      let none = rw vacant at live in absurd (cc)
]

pub len-remove_live : (txns : Txns) (slot : ℕ) → IsSome (get txns slot) → len (remove txns slot) + 1 ≡ len txns
len-remove_live txns slot live =
    let removed = len-remove nat_cmp_total txns slot ∙ ap (λ b. cond b (len txns - 1) (len txns)) live in
    let some = len-positive txns slot live in
    omega arith
