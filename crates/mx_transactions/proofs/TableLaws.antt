-- Names with slots of their own: at first, after one begins or ends, and where one slot changes.
use Rattle.std.proofs.Common.{◌≡◌, ◌≢◌, ◌⊎◌, ℕ, zero, suc, ◌<◌, Bool, true, false, not, ◌&&◌, List, [], ◌∷◌, length, Option, Some, None, inl, inr, refl, sym, ap, ◌∙◌, subst, arith}
use Rattle.std.specs.Prelude.{◌==◌, IsSome, nat_le, slice_get, slice_set, Result, Ok, Err, OnOk, OnErr, if◌then◌else◌}
use Rattle.std.proofs.lemmas.Bool.{cases_eq, eqb-true, le-leb}
use Rattle.std.proofs.lemmas.List.{length-set}
use Rattle.std.specs.FinMap.{empty, get, insert, len, len-empty}
use Rattle.std.specs.List.{AllByRecursion, filter}
use Rattle.std.specs.Ordering.{nat_cmp}
use Rattle.mx_base.specs.declared.ids.TxnName.{TxnName}
use Rattle.mx_model.specs.Streams.{is_name}
use Rattle.mx_space.specs.declared.kept_states.KeptStates.{KeptStates}
use Rattle.mx_space.specs.declared.state.State as memory
use Rattle.mx_space.specs.KeptStates.{kept_at, needed_from}
use Rattle.mx_tracker.specs.declared.read.Read as noted
use Rattle.mx_tracker.specs.Tracks.{ChangesReads, Tracks, noted_reads}
use Rattle.mx_txn.specs.declared.state.TxnState.{TxnState}
use Rattle.mx_txn.specs.declared.state.TxnState.TheVariants as txn
use Rattle.mx_txn.specs.Slots.{IsLive, IsOldestView, Txns, max_open}
use Rattle.mx_txn.specs.Views.{with_state}
use Rattle.mx_txn.proofs.StateLaws.{get-with_state_other, get-with_state_same, len-insert_live, len-insert_new, len-remove_live}
use Rattle.mx_model.proofs.EachLaws.{each_kept, each_like}
use Rattle.mx_transactions.specs.declared.names.Named.{Named}
use Rattle.mx_transactions.specs.declared.work.Work.{Work}
use Rattle.mx_transactions.specs.Open.{HaveOwnSlots, HasSlot, WritesNothing, IsOther, AreInSlots, IsVacant, Open, SlotHas, slot_named}
use Rattle.mx_transactions.specs.OpenSteps.{ChangesTo, DropsUnread, IsTrimmed, KeepsNoOthers, StaysAt}
use Rattle.mx_transactions.proofs.OpenLaws.{found_live, found_other, same_slot}

-- what every live name has, where one slot's state changes and it has another
abbrev Live : Txns → List Named → Type 0
Live slots names = AllByRecursion (λ (named : Named). IsLive slots named.slot) names

-- ---- a name that was found

-- those of other names
abbrev pub others_of : TxnName → List Named → List Named
others_of name names = filter (λ named. not (is_name named.name name)) names

-- equal names
same_as : (one name : TxnName) → is_name one name ≡ true → (other : TxnName) → is_name other name ≡ is_name other one
same_as one name same other =
    let parts = and_true (one.conn.0 == name.conn.0) (one.stream.0 == name.stream.0) same in
    let conn : one.conn.0 ≡ name.conn.0 = eqb-true _ _ parts.0 in
    let stream : one.stream.0 ≡ name.stream.0 = eqb-true _ _ parts.1 in
    λ i. (other.conn.0 == sym conn i) && (other.stream.0 == sym stream i)
  where
    and_true : (a b : Bool) → (a && b) ≡ true → (a ≡ true) × (b ≡ true)
    and_true true b e = (refl, e)
    and_true false b e = absurd cc

-- names that are others keep to themselves
kept_apart : (passes : Named → Bool) (names : List Named) → HaveOwnSlots names → HaveOwnSlots (filter passes names)
kept_apart passes [] apart = tt
kept_apart passes (one ∷ others) apart = by_test (passes one) (kept_apart passes others apart.1)
  where
    by_test : (b : Bool) → HaveOwnSlots (filter passes others) → HaveOwnSlots (if b then one ∷ filter passes others else filter passes others)
    by_test true rest = (each_kept (IsOther one) passes others apart.0, rest)
    by_test false rest = rest

-- where none has the name, all stay
all_others : (name : TxnName) (one : Named) (others : List Named) → is_name one.name name ≡ true → AllByRecursion (IsOther one) others → others_of name others ≡ others
all_others name one [] is apart = refl
all_others name one (other ∷ others) is apart =
    ap (λ (b : Bool). if not b then other ∷ others_of name others else others_of name others) (same_as one.name name is other.name ∙ apart.0.name)
    ∙ ap (λ rest. other ∷ rest) (all_others name one others is apart.1)

-- what stays where the one of a name goes
pub record Ended (name : TxnName) (names : List Named) (slot : ℕ) : Type 0 where
  pub slots : AllByRecursion (λ (named : Named). named.slot ≢ slot) (others_of name names)
  pub count : suc (length (others_of name names)) ≡ length names

pub ended : (name : TxnName) (names : List Named) (slot : ℕ) → HaveOwnSlots names → slot_named name names ≡ Some slot → Ended name names slot
ended name [] slot apart e = absurd cc
ended name (one ∷ others) slot apart e = by_test (is_name one.name name) refl e (ended name others slot apart.1)
  where
    Rest : List Named → Type 0
    Rest rest = AllByRecursion (λ (named : Named). named.slot ≢ slot) rest × (suc (length rest) ≡ suc (length others))

    by_test : (b : Bool) → is_name one.name name ≡ b → (if b then Some one.slot else slot_named name others) ≡ Some slot
        → (slot_named name others ≡ Some slot → Ended name others slot) → Ended name (one ∷ others) slot
    by_test true is e later =
        let same : one.slot ≡ slot = cc in
        let rest : Rest others = (each_like (IsOther one) (λ (named : Named). named.slot ≢ slot) (λ named apart. subst (λ s. named.slot ≢ s) same apart.slot) others apart.0, refl) in
        let all : Rest (if not true then one ∷ others_of name others else others_of name others) = subst Rest (sym (all_others name one others is apart.0)) rest in
        let given : Rest (others_of name (one ∷ others)) = subst (λ (b : Bool). Rest (if not b then one ∷ others_of name others else others_of name others)) (sym is) all in
        record { slots = given.0; count = given.1 }
    by_test false is e later =
        let rest = later e in
        let all : Rest (one ∷ others_of name others) = ((λ same. found_other one name others apart.0 slot e (sym same), rest.slots), ap suc rest.count) in
        let given : Rest (others_of name (one ∷ others)) = subst (λ (b : Bool). Rest (if not b then one ∷ others_of name others else others_of name others)) (sym is) all in
        record { slots = given.0; count = given.1 }

-- ---- slots

-- an item of a list in which each has this
item_at : {X : Type 0} (P : X → Type 0) (xs : List X) (place : ℕ) → AllByRecursion P xs → place < length xs → (x : X) × (slice_get xs place ≡ Some x) × P x
item_at P [] place have within = absurd (omega (arith, within))
item_at P (x ∷ xs) zero have within = (x, refl, have.0)
item_at P (x ∷ xs) (suc place) have within = item_at P xs place have.1 (omega (arith, within))

-- an item that was set
pub get-set_same : {X : Type 0} (xs : List X) (place : ℕ) (x : X) → place < length xs → slice_get (slice_set xs place x) place ≡ Some x
get-set_same [] place x within = absurd (omega (arith, within))
get-set_same (first ∷ xs) zero x within = refl
get-set_same (first ∷ xs) (suc place) x within = get-set_same xs place x (omega (arith, within))

pub get-set_other : {X : Type 0} (xs : List X) (place : ℕ) (x : X) (other : ℕ) → other ≢ place → slice_get (slice_set xs place x) other ≡ slice_get xs other
get-set_other [] place x other differs = refl
get-set_other (first ∷ xs) zero x zero differs = absurd (differs refl)
get-set_other (first ∷ xs) zero x (suc other) differs = refl
get-set_other (first ∷ xs) (suc place) x zero differs = refl
get-set_other (first ∷ xs) (suc place) x (suc other) differs = get-set_other xs place x other (λ same. differs (ap suc same))

-- a live slot isn't a vacant one
pub live_differs : (slots : Txns) (live vacant : ℕ) → IsLive slots live → get slots vacant ≡ None → live ≢ vacant
live_differs slots live vacant is none = λ same. let gone : get slots live ≡ None = ap (get slots) same ∙ none in let both = rw gone at is in absurd cc

-- the slots of others stay live
live_others : (slots : Txns) (slot : ℕ) (state : Option TxnState) (names : List Named) → AllByRecursion (λ (named : Named). named.slot ≢ slot) names → Live slots names
    → Live (with_state slots slot state) names
live_others slots slot state [] apart live = tt
live_others slots slot state (named ∷ names) apart live =
    (subst IsSome (sym (get-with_state_other slots slot state named.slot apart.0)) live.0, live_others slots slot state names apart.1 live.1)

-- ---- a slot that has nothing left

-- what is needed of the kept states: what a view reads, and nothing that wasn't kept
needed_kept : (slots : Txns) (oldest : Option ℕ) (slot place : ℕ) → IsOldestView slots oldest → get slots slot ≡ Some (txn.View place) → (kept : Option memory.State) → IsSome kept
    → IsSome (needed_from oldest place kept)
needed_kept slots None slot place is view kept some = absurd (is slot place view)
needed_kept slots (Some oldest) slot place is view kept some =
    subst IsSome (sym (ap (λ b. if b then kept else None) (le-leb oldest place (is.1 slot place view)))) some

needed_was : (oldest : Option ℕ) (commits : ℕ) (kept : Option memory.State) (memory : memory.State) → needed_from oldest commits kept ≡ Some memory → kept ≡ Some memory
needed_was None commits kept memory is = absurd cc
needed_was (Some oldest) commits kept memory is = by_test (nat_le oldest commits) is
  where
    by_test : (b : Bool) → (if b then kept else None) ≡ Some memory → kept ≡ Some memory
    by_test true is = is
    by_test false is = absurd cc

-- the kept states are those that views need
pub record Trims (old new : Open) : Type 0 where
  pub oldest : Option ℕ
  pub is : IsOldestView new.slots oldest
  pub kept : (commits : ℕ) → kept_at commits new.kept ≡ needed_from oldest commits (kept_at commits old.kept)

-- trimming once more would take nothing
needed_again : (oldest : Option ℕ) (commits : ℕ) (kept : Option memory.State) → needed_from oldest commits kept ≡ needed_from oldest commits (needed_from oldest commits kept)
needed_again None commits kept = refl
needed_again (Some oldest) commits kept = by_test (nat_le oldest commits)
  where
    by_test : (b : Bool) → (if b then kept else None) ≡ (if b then (if b then kept else None) else None)
    by_test true = refl
    by_test false = refl

pub is_trimmed : (before : ℕ → Option memory.State) (new : Open) (oldest : Option ℕ) → IsOldestView new.slots oldest
    → ((commits : ℕ) → kept_at commits new.kept ≡ needed_from oldest commits (before commits)) → IsTrimmed new
is_trimmed before new oldest is kept = record {
  oldest = oldest;
  is = is;
  none = λ commits. kept commits ∙ needed_again oldest commits (before commits) ∙ ap (needed_from oldest commits) (sym (kept commits));
}

pub trimmed_views : (old new : Open) → Trims old new → (slot place : ℕ) → get new.slots slot ≡ Some (txn.View place) → IsSome (kept_at place old.kept) → IsSome (kept_at place new.kept)
trimmed_views old new trims slot place view some =
    subst IsSome (sym (trims.kept place)) (needed_kept new.slots trims.oldest slot place trims.is view (kept_at place old.kept) some)

pub trimmed_states : (old new : Open) → Trims old new → (commits : ℕ) (memory : memory.State) → kept_at commits new.kept ≡ Some memory → kept_at commits old.kept ≡ Some memory
trimmed_states old new trims commits memory is = needed_was trims.oldest commits (kept_at commits old.kept) memory (sym (trims.kept commits) ∙ is)

-- the views that are left keep their states, and no state is kept that wasn't before
pub record KeepsViews (old new : Open) : Type 0 where
  pub views : (other place : ℕ) → get new.slots other ≡ Some (txn.View place) → IsSome (kept_at place old.kept) → IsSome (kept_at place new.kept)
  pub states : KeepsNoOthers old.kept new.kept

pub none_added : (slots : Txns) (before trimmed after : KeptStates) (oldest : Option ℕ) → ((commits : ℕ) → kept_at commits trimmed ≡ needed_from oldest commits (kept_at commits before))
    → DropsUnread slots trimmed after → KeepsNoOthers before after
none_added slots before trimmed after oldest trims drops commits one kept = by_drop (drops commits)
  where
    some_is_none : (state : memory.State) → Some state ≢ None
    some_is_none state same = absurd cc

    by_drop : (kept_at commits after ≡ kept_at commits trimmed) ⊎ ((kept_at commits after ≡ None) × ((slot : ℕ) → get slots slot ≢ Some (txn.View commits))) → kept_at commits before ≡ Some one
    by_drop (inl same) = needed_was oldest commits (kept_at commits before) one (sym (trims commits) ∙ sym same ∙ kept)
    by_drop (inr (none, unread)) = absurd (some_is_none one (sym kept ∙ none))

-- so it is where states are trimmed, and the one that a transaction read that ended or was doomed is dropped too, if no other reads it
module _ (old new : Open) (trimmed : KeptStates) (oldest : Option ℕ) (is : IsOldestView new.slots oldest)
    (trims : (commits : ℕ) → kept_at commits trimmed ≡ needed_from oldest commits (kept_at commits old.kept)) (drops : DropsUnread new.slots trimmed new.kept) where
  abbrev between : Open
  between = record new { kept = trimmed }

  trims_first : Trims old between
  trims_first = record { oldest = oldest; is = is; kept = trims }

  views_read : (other place : ℕ) → get new.slots other ≡ Some (txn.View place) → IsSome (kept_at place old.kept) → IsSome (kept_at place new.kept)
  views_read other place view some = by_drop (drops place)
    where
      by_drop : (kept_at place new.kept ≡ kept_at place trimmed) ⊎ ((kept_at place new.kept ≡ None) × ((slot : ℕ) → get new.slots slot ≢ Some (txn.View place))) → IsSome (kept_at place new.kept)
      by_drop (inl same) = subst IsSome (sym same) (trimmed_views old between trims_first other place view some)
      by_drop (inr (none, unread)) = absurd (unread other view)

  pub keeps_read : KeepsViews old new
  keeps_read = record { views = views_read; states = none_added new.slots old.kept trimmed new.kept oldest trims drops }

pub is_trimmed_read : (new : Open) (before trimmed : KeptStates) (oldest : Option ℕ) → IsOldestView new.slots oldest
    → ((commits : ℕ) → kept_at commits trimmed ≡ needed_from oldest commits (kept_at commits before)) → DropsUnread new.slots trimmed new.kept → IsTrimmed new
is_trimmed_read new before trimmed oldest is trims drops = record { oldest = oldest; is = is; none = λ commits. by_drop commits (drops commits) }
  where
    nothing_needed : (first : Option ℕ) (commits : ℕ) → ◌≡◌ {A = Option memory.State} (needed_from first commits None) None
    nothing_needed None commits = refl
    nothing_needed (Some first) commits = by_test (nat_le first commits)
      where
        by_test : (b : Bool) → ◌≡◌ {A = Option memory.State} (if b then None else None) None
        by_test true = refl
        by_test false = refl

    by_drop : (commits : ℕ) → (kept_at commits new.kept ≡ kept_at commits trimmed) ⊎ ((kept_at commits new.kept ≡ None) × ((slot : ℕ) → get new.slots slot ≢ Some (txn.View commits)))
        → kept_at commits new.kept ≡ needed_from oldest commits (kept_at commits new.kept)
    by_drop commits (inl same) =
        same ∙ trims commits ∙ needed_again oldest commits (kept_at commits before) ∙ ap (needed_from oldest commits) (sym (same ∙ trims commits))
    by_drop commits (inr (none, unread)) = none ∙ sym (ap (needed_from oldest commits) none ∙ nothing_needed oldest commits)

pub keeps_same : (old new : Open) → new.kept ≡ old.kept → KeepsViews old new
keeps_same old new same = record {
  views = λ other place view there. subst (λ kept. IsSome (kept_at place kept)) (sym same) there;
  states = λ commits memory is. ap (kept_at commits) (sym same) ∙ is;
}

-- a slot has this state now, and what its transaction has read and written is dropped
pub record Clears (old new : Open) (slot : ℕ) (state : Option TxnState) : Type 0 where
  pub slots : new.slots ≡ with_state old.slots slot state
  pub tracks : ChangesReads old.tracks new.tracks slot []
  pub work : (work : Work) × WritesNothing work × (new.works ≡ slice_set old.works slot work)
  pub keeps : KeepsViews old new

module _ (old new : Open) (slot : ℕ) (state : Option TxnState) (clears : Clears old new slot state) where
  pub cleared_others : (other : ℕ) → other ≢ slot → StaysAt old new other
  cleared_others other differs = record {
    state = ap (λ slots. get slots other) clears.slots ∙ get-with_state_other old.slots slot state other differs;
    work = ap (λ works. slice_get works other) clears.work.2 ∙ get-set_other old.works slot clears.work.0 other differs;
    reads = clears.tracks.others other differs;
    kept = clears.keeps.views other;
  }

  abbrev pub cleared : SlotHas
  cleared = record { state = state; work = clears.work.0; reads = [] }

  pub cleared_slot : slot < length old.works → HasSlot new slot cleared
  cleared_slot within = record {
    state = sym (ap (λ slots. get slots slot) clears.slots ∙ get-with_state_same old.slots slot state);
    work = ap (λ works. slice_get works slot) clears.work.2 ∙ get-set_same old.works slot clears.work.0 within;
    reads = sym clears.tracks.here;
  }

  pub cleared_vacant : IsVacant cleared
  cleared_vacant = record { idle = clears.work.1; reads = refl }

  cleared_whole : length old.works ≡ max_open → length new.works ≡ max_open
  cleared_whole whole = ap length clears.work.2 ∙ length-set old.works slot clears.work.0 ∙ whole

-- ---- tables

-- no transaction is open
pub new_table : (all : Open) → all.names ≡ [] → all.slots ≡ empty → ((slot : ℕ) → noted_reads all.tracks slot ≡ []) → length all.works ≡ max_open → AllByRecursion WritesNothing all.works
    → AreInSlots all
new_table all names slots reads whole idle = record {
  live = subst (Live all.slots) (sym names) tt;
  apart = subst HaveOwnSlots (sym names) tt;
  count = ap len slots ∙ len-empty nat_cmp TxnState ∙ ap length (sym names);
  whole = whole;
  vacant = λ slot within none.
      let (work, there, is) = item_at WritesNothing all.works slot idle (subst (λ n. slot < n) (sym whole) within) in
      (record { state = None; work = work; reads = [] }, record { state = sym none; work = there; reads = sym (reads slot) }, record { idle = is; reads = refl });
}

-- another slot that is vacant stays so
vacant_stays : (old new : Open) (slot : ℕ) → AreInSlots old → slot < max_open → StaysAt old new slot → get new.slots slot ≡ None → (has : SlotHas) × HasSlot new slot has × IsVacant has
vacant_stays old new slot table within stays none =
    let (has, is, vacant) = table.vacant slot within (sym stays.state ∙ none) in (has, same_slot old new slot has stays is, vacant)

-- where one slot's transaction changes
pub changed_table : (old new : Open) (slot : ℕ) → AreInSlots old → IsLive new.slots slot → new.names ≡ old.names
    → ((other : ℕ) → other ≢ slot → StaysAt old new other) → len new.slots ≡ len old.slots → length new.works ≡ max_open → AreInSlots new
changed_table old new slot table live names others count whole = record {
  live = subst (Live new.slots) (sym names)
      (each_like (λ (named : Named). IsLive old.slots named.slot) (λ (named : Named). IsLive new.slots named.slot) (λ named was. stays_live named.slot was (cases_eq named.slot slot)) old.names table.live);
  apart = subst HaveOwnSlots (sym names) table.apart;
  count = count ∙ table.count ∙ ap length (sym names);
  whole = whole;
  vacant = λ other within none. let differs : other ≢ slot = λ same. live_differs new.slots slot other live none (sym same) in vacant_stays old new other table within (others other differs) none;
}
  where
    stays_live : (other : ℕ) → IsLive old.slots other → (other ≡ slot) ⊎ (other ≡ slot → ⊥) → IsLive new.slots other
    stays_live other was (inl same) = subst (IsLive new.slots) (sym same) live
    stays_live other was (inr differs) = subst IsSome (sym (others other differs).state) was

-- where it is doomed
pub doomed_table : (old new : Open) (slot : ℕ) (state : TxnState) → AreInSlots old → IsLive old.slots slot → new.names ≡ old.names → Clears old new slot (Some state) → AreInSlots new
doomed_table old new slot state table live names clears =
    changed_table old new slot table (subst IsSome (sym (ap (λ slots. get slots slot) clears.slots ∙ get-with_state_same old.slots slot (Some state))) refl) names
    (cleared_others old new slot (Some state) clears) (ap len clears.slots ∙ len-insert_live old.slots slot state live) (cleared_whole old new slot (Some state) clears table.whole)

-- one begins
abbrev pub with_begun : Open → Named → (since : ℕ) → Open
with_begun all named since =
    record { names = named ∷ all.names; slots = insert all.slots named.slot (txn.Active since); tracks = all.tracks; works = all.works; kept = all.kept }

-- it is another one
new_apart : (slots : Txns) (named : Named) (names : List Named) → slot_named named.name names ≡ None → Live slots names → get slots named.slot ≡ None → AllByRecursion (IsOther named) names
new_apart slots named [] none live vacant = tt
new_apart slots named (one ∷ names) none live vacant = by_test (is_name one.name named.name) refl none (λ none. new_apart slots named names none live.1 vacant)
  where
    by_test : (b : Bool) → is_name one.name named.name ≡ b → (if b then Some one.slot else slot_named named.name names) ≡ None
        → (slot_named named.name names ≡ None → AllByRecursion (IsOther named) names) → AllByRecursion (IsOther named) (one ∷ names)
    by_test true is none later = absurd cc
    by_test false is none later = (record { name = is; slot = live_differs slots one.slot named.slot live.0 vacant }, later none)

module _ (all : Open) (named : Named) (since : ℕ) (vacant : get all.slots named.slot ≡ None) where
  pub begun_others : (other : ℕ) → other ≢ named.slot → StaysAt all (with_begun all named since) other
  begun_others other differs = record {
    state = get-with_state_other all.slots named.slot (Some (txn.Active since)) other differs;
    work = refl;
    reads = refl;
    kept = λ place view kept. kept;
  }

  live_slots : (names : List Named) → Live all.slots names → AllByRecursion (λ (one : Named). one.slot ≢ named.slot) names
  live_slots names live = each_like (λ (one : Named). IsLive all.slots one.slot) (λ (one : Named). one.slot ≢ named.slot) (λ one is. live_differs all.slots one.slot named.slot is vacant) names live

  pub begun_stay : AreInSlots all → AllByRecursion (λ (one : Named). StaysAt all (with_begun all named since) one.slot) all.names
  begun_stay table =
      each_like (λ (one : Named). one.slot ≢ named.slot) (λ (one : Named). StaysAt all (with_begun all named since) one.slot) (λ one differs. begun_others one.slot differs) all.names (live_slots all.names table.live)

  begun_live : IsLive (insert all.slots named.slot (txn.Active since)) named.slot
  begun_live = subst IsSome (sym (get-with_state_same all.slots named.slot (Some (txn.Active since)))) refl

  pub begun_table : AreInSlots all → slot_named named.name all.names ≡ None → AreInSlots (with_begun all named since)
  begun_table table none = record {
    live = (begun_live, live_others all.slots named.slot (Some (txn.Active since)) all.names (live_slots all.names table.live) table.live);
    apart = (new_apart all.slots named all.names none table.live vacant, table.apart);
    count = let more = len-insert_new all.slots named.slot (txn.Active since) vacant in let was = table.count in omega (arith, more, was);
    whole = table.whole;
    vacant = λ other within none.
        let differs : other ≢ named.slot = λ same. live_differs (insert all.slots named.slot (txn.Active since)) named.slot other begun_live none (sym same) in
        vacant_stays all (with_begun all named since) other table within (begun_others other differs) none;
  }

-- one ends
pub ended_table : (old new : Open) (name : TxnName) (slot : ℕ) → AreInSlots old → slot < max_open → slot_named name old.names ≡ Some slot → new.names ≡ others_of name old.names
    → Clears old new slot None → AreInSlots new
ended_table old new name slot table within e names clears =
    let ends = ended name old.names slot table.apart e in
    record {
      live = subst (Live new.slots) (sym names)
          (subst (λ slots. Live slots (others_of name old.names)) (sym clears.slots)
          (live_others old.slots slot None (others_of name old.names) ends.slots (each_kept (λ (named : Named). IsLive old.slots named.slot) (λ named. not (is_name named.name name)) old.names table.live)));
      apart = subst HaveOwnSlots (sym names) (kept_apart (λ named. not (is_name named.name name)) old.names table.apart);
      count =
          let fewer = len-remove_live old.slots slot (found_live old.slots name old.names table.live slot e) in
          let was = table.count in
          let now = ends.count in
          let left : len (with_state old.slots slot None) ≡ length (others_of name old.names) = omega (arith, fewer, was, now) in
          ap len clears.slots ∙ left ∙ ap length (sym names);
      whole = cleared_whole old new slot None clears table.whole;
      vacant = λ other in_range none. by_place other in_range none (cases_eq other slot);
    }
  where
    by_place : (other : ℕ) → other < max_open → get new.slots other ≡ None → (other ≡ slot) ⊎ (other ≡ slot → ⊥) → (has : SlotHas) × HasSlot new other has × IsVacant has
    by_place other in_range none (inl same) = (
      cleared old new slot None clears,
      subst (λ s. HasSlot new s (cleared old new slot None clears)) (sym same) (cleared_slot old new slot None clears (subst (λ n. slot < n) (sym table.whole) within)),
      cleared_vacant old new slot None clears,
    )
    by_place other in_range none (inr differs) = vacant_stays old new other table in_range (cleared_others old new slot None clears other differs) none

-- and those of other names stay
pub ended_stay : (old new : Open) (name : TxnName) (slot : ℕ) → AreInSlots old → slot_named name old.names ≡ Some slot → Clears old new slot None
    → AllByRecursion (λ (named : Named). StaysAt old new named.slot) (others_of name old.names)
ended_stay old new name slot table e clears =
    each_like (λ (named : Named). named.slot ≢ slot) (λ (named : Named). StaysAt old new named.slot) (λ named differs. cleared_others old new slot None clears named.slot differs)
    (others_of name old.names) (ended name old.names slot table.apart e).slots

-- ---- one slot

-- what is noted of one slot
noted_others : {A E : Type 0} (tracks now : Tracks) (slot : ℕ) (reads : List noted.Read) (result : Result A E) → OnOk result (ChangesReads tracks now slot reads) → OnErr result (now ≡ tracks)
    → (other : ℕ) → other ≢ slot → noted_reads now other ≡ noted_reads tracks other
noted_others tracks now slot reads (Ok done) ok err other differs = ok.others other differs
noted_others tracks now slot reads (Err fault) ok err other differs = ap (λ t. noted_reads t other) err

pub noted_table : {A E : Type 0} (all : Open) (tracks : Tracks) (slot : ℕ) (reads : List noted.Read) (result : Result A E) → AreInSlots all → IsLive all.slots slot
    → OnOk result (ChangesReads all.tracks tracks slot reads) → OnErr result (tracks ≡ all.tracks)
    → AreInSlots (record { names = all.names; slots = all.slots; tracks = tracks; works = all.works; kept = all.kept })
noted_table all tracks slot reads result table live ok err =
    changed_table all (record { names = all.names; slots = all.slots; tracks = tracks; works = all.works; kept = all.kept }) slot table live refl
    (λ other differs. record { state = refl; work = refl; reads = noted_others all.tracks tracks slot reads result ok err other differs; kept = λ place view kept. kept }) refl table.whole

-- one that is doomed
pub doomed_slot : (old new : Open) (slot : ℕ) (state : TxnState) → AreInSlots old → slot < max_open → new.names ≡ old.names → Clears old new slot (Some state)
    → (now : SlotHas) × (now.state ≡ Some state) × ChangesTo old new slot now
doomed_slot old new slot state table within names clears = (
  cleared old new slot (Some state) clears,
  refl,
  record {
    changes = record { names = names; others = cleared_others old new slot (Some state) clears; kept = clears.keeps.states };
    has = cleared_slot old new slot (Some state) clears (subst (λ n. slot < n) (sym table.whole) within);
  },
)
