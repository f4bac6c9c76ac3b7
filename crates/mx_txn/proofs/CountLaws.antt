-- The numbers that are kept beside the states stay right.
use Rattle.std.proofs.Common.{◌≡◌, ◌≢◌, ℕ, ◌+◌, ◌-◌, ◌<◌, ◌≤◌, length, set, take, Option, Some, None, min, max, refl, sym, ap, subst, ◌∙◌, inl, inr, arith}
use Rattle.std.specs.Prelude.{IsSome, replicate}
use Rattle.std.specs.FinMap.{empty, get, get-empty, len, len-empty}
use Rattle.std.specs.Ordering.{nat_cmp}
use Rattle.std.proofs.lemmas.Bool.{cases_eq, cases_lt}
use Rattle.std.proofs.lemmas.List.{get_or-replicate, get_or-set_same, get_or-set_other, get_or-take, get_or_past, length-replicate, length-set}
use Rattle.mx_txn.specs.declared.state.TxnState.{TxnState}
use Rattle.mx_txn.specs.declared.state.TxnState.TheVariants.{Active}
use Rattle.mx_txn.specs.Slots.{max_open, Txns, IsLive, IsOldestView}
use Rattle.mx_txn.specs.Views.{States, txns_of, state_at, lesser_of, with_state, AreLiveBelow, AreVacantFrom, AreCounted, IsFirstVacant}
use Rattle.mx_txn.proofs.StateLaws.{get-txns_of, same_txns, txns_of-set, txns_of-take, len-txns_of-le, len-txns_of_full, len-insert_new, len-insert_live, len-remove_live}
use Rattle.mx_txn.proofs.LeastLaws.{oldest_changed}

vacant_at : (count slot : ℕ) → state_at (replicate count None) slot ≡ None
vacant_at count slot = elim (cases_lt slot count) [
  | inl below ↦ get_or-replicate count slot None None below
  | inr past ↦ get_or_past (replicate count None) slot None (omega (arith, length-replicate count (let none : Option TxnState = None in none)))
]

-- vacant slots are no transaction
pub txns_of-replicate : (count : ℕ) → txns_of (replicate count None) ≡ empty
txns_of-replicate count = same_txns _ _ (λ slot. get-txns_of (replicate count None) slot ∙ vacant_at count slot ∙ sym (get-empty nat_cmp slot))

pub counted_none : (count : ℕ) → count ≡ max_open → AreCounted (replicate count None) 0 0 0 None
counted_none count whole = record {
  whole = length-replicate count None ∙ whole;
  counted = sym (ap len (txns_of-replicate count) ∙ len-empty nat_cmp TxnState);
  taken = λ slot below. absurd (omega arith);
  vacant = λ slot past. vacant_at count slot;
  bounded = omega arith;
  viewed = λ slot at has. let none : get (txns_of (replicate count None)) slot ≡ None = get-txns_of (replicate count None) slot ∙ vacant_at count slot in absurd (cc);
}

-- what a live slot is in memory
pub state_of_live : (states : States) (txns : Txns) (number slot : ℕ) → txns_of states ≡ txns → number ≡ slot → IsLive txns slot → IsSome (state_at states number)
state_of_live states txns number slot is same live =
    rw (same, ← get-txns_of states slot, is) live

pub live_within : (states : States) (number : ℕ) → IsSome (state_at states number) → number < length states
live_within states number live = elim (cases_lt number (length states)) [
  | inl within ↦ within
  | inr past ↦ let none = get_or_past states number None past in absurd (cc)
]

pub live_before : (states : States) (number used : ℕ) → IsSome (state_at states number) → AreVacantFrom states used → number < used
live_before states number used live vacant = elim (cases_lt number used) [
  | inl below ↦ below
  | inr past ↦ let none = vacant number past in absurd (cc)
]

pub vacant_after : (states : States) (number used : ℕ) (state : Option TxnState) → number < used → AreVacantFrom states used → AreVacantFrom (set states number state) used
vacant_after states number used state below vacant slot past =
    let differs : slot ≢ number = omega arith in
    get_or-set_other states number slot state None differs ∙ vacant slot past

-- vacant among those below the last live one, and so among all
pub vacant_beyond : (states : States) (used below : ℕ) → AreVacantFrom states used → AreVacantFrom (take used states) below → AreVacantFrom states below
vacant_beyond states used below vacant taken slot past = elim (cases_lt slot used) [
  | inl within ↦ sym (get_or-take used states slot None within) ∙ taken slot past
  | inr beyond ↦ vacant slot beyond
]

-- the oldest view of all states, where it was found among those below the last live one
pub oldest_set : (states : States) (number used : ℕ) (before state : Option TxnState) (oldest found : Option ℕ)
    → IsSome (state_at states number)
    → before ≡ state_at states number
    → AreVacantFrom states used
    → IsOldestView (txns_of states) oldest
    → ((txns : Txns) (slot : ℕ) → get txns slot ≡ before → txns_of (take used (set states number state)) ≡ with_state txns slot state → IsOldestView txns oldest → IsOldestView (txns_of (take used (set states number state))) found)
    → IsOldestView (txns_of (set states number state)) found
oldest_set states number used before state oldest found live was vacant old search_found =
    let after = vacant_after states number used state (live_before states number used live vacant) vacant in
    let same = txns_of-take (set states number state) used after in
    let changed = txns_of-set states number state (live_within states number live) in
    subst (λ t. IsOldestView t found) same (search_found (txns_of states) number (get-txns_of states number ∙ sym was) (same ∙ changed) old)

pub counted_set : (states : States) (live vacant_from used number : ℕ) (oldest found : Option ℕ) (state : TxnState)
    → AreCounted states live vacant_from used oldest
    → IsSome (state_at states number)
    → IsOldestView (txns_of (set states number (Some state))) found
    → AreCounted (set states number (Some state)) live vacant_from used found
counted_set states live vacant_from used number oldest found state counts is viewed = record {
  whole = length-set states number (Some state) ∙ counts.whole;
  counted =
      counts.counted
      ∙ sym (ap len (txns_of-set states number (Some state) (live_within states number is)) ∙ len-insert_live (txns_of states) number state (rw get-txns_of is));
  taken = λ slot below. elim (cases_eq slot number) [
    | inl same ↦ let here = ap (state_at (set states number (Some state))) same ∙ get_or-set_same states number (Some state) None (live_within states number is) in rw here refl
    | inr differs ↦ rw (get_or-set_other states number slot (Some state) None differs) (counts.taken slot below)
  ];
  vacant = vacant_after states number used (Some state) (live_before states number used is counts.vacant) counts.vacant;
  bounded = counts.bounded;
  viewed = viewed;
}

pub counted_end : (states : States) (live vacant_from used below number : ℕ) (oldest found : Option ℕ)
    → AreCounted states live vacant_from used oldest
    → IsSome (state_at states number)
    → below ≤ used
    → AreVacantFrom (set states number None) below
    → IsOldestView (txns_of (set states number None)) found
    → AreCounted (set states number None) (live - 1) (min vacant_from number) below found
counted_end states live vacant_from used below number oldest found counts is less vacant viewed =
    let removed = len-remove_live (txns_of states) number (rw get-txns_of is) in
    let fewer = ap len (txns_of-set states number None (live_within states number is)) in
    let was = counts.counted in
    record {
      whole = length-set states number None ∙ counts.whole;
      counted = omega arith;
      taken = λ slot below. let differs : slot ≢ number = omega arith in rw (get_or-set_other states number slot None None differs) (counts.taken slot (omega arith));
      vacant = vacant;
      bounded = let bound = counts.bounded in omega arith;
      viewed = viewed;
    }

pub counted_begin : (states : States) (live vacant_from used number : ℕ) (oldest : Option ℕ) (at : ℕ)
    → AreCounted states live vacant_from used oldest
    → IsFirstVacant states vacant_from (Some number)
    → AreCounted (set states number (Some (Active at))) (live + 1) (number + 1) (max used (number + 1)) oldest
counted_begin states live vacant_from used number oldest at counts first =
    let within : number < length states = let whole = counts.whole in let below = first.1 in omega arith in
    let none = get-txns_of states number ∙ first.2 in
    let is = txns_of-set states number (Some (Active at)) within in
    record {
      whole = length-set states number (Some (Active at)) ∙ counts.whole;
      counted = let more = len-insert_new (txns_of states) number (Active at) none in let grown = ap len is in let was = counts.counted in omega arith;
      taken = λ slot below. elim (cases_eq slot number) [
        | inl same ↦ let here = ap (state_at (set states number (Some (Active at)))) same ∙ get_or-set_same states number (Some (Active at)) None within in rw here refl
        | inr differs ↦ rw (get_or-set_other states number slot (Some (Active at)) None differs) (elim (cases_lt slot vacant_from) as (λ _. IsSome (state_at states slot)) [
          | inl before ↦ counts.taken slot before
          | inr past ↦ first.3 slot past (omega arith)
        ])
      ];
      vacant = λ slot past. let differs : slot ≢ number = omega arith in get_or-set_other states number slot (Some (Active at)) None differs ∙ counts.vacant slot (omega arith);
      bounded = let bound = counts.bounded in let below = first.1 in omega arith;
      viewed = subst (λ o. IsOldestView (txns_of (set states number (Some (Active at)))) o) (kept oldest) (oldest_changed (txns_of states) _ number None (Some (Active at)) oldest none is (λ view has. absurd (cc)) counts.viewed);
    }
  where
    kept : (o : Option ℕ) → lesser_of o None ≡ o
    kept None = refl
    kept (Some o) = refl

-- as many transactions are open as may be where no slot is vacant
pub len_full : (states : States) (vacant_from : ℕ) → length states ≡ max_open → AreLiveBelow states vacant_from → IsFirstVacant states vacant_from None → len (txns_of states) ≡ max_open
len_full states vacant_from whole taken none =
    len-txns_of_full states (λ slot within. elim (cases_lt slot vacant_from) as (λ _. IsSome (state_at states slot)) [
      | inl below ↦ taken slot below
      | inr past ↦ none slot past (omega arith)
    ])
    ∙ whole

-- and fewer where one is
pub len_below : (states : States) (number : ℕ) → length states ≡ max_open → number < max_open → state_at states number ≡ None → len (txns_of states) < max_open
len_below states number whole below none =
    let vacant = get-txns_of states number ∙ none in
    let more = len-insert_new (txns_of states) number (Active 0) vacant in
    let set_there = ap len (txns_of-set states number (Some (Active 0)) (omega arith)) in
    let bound = len-txns_of-le (set states number (Some (Active 0))) in
    let same = length-set states number (Some (Active 0)) in
    omega arith
