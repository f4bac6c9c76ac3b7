-- Open transactions where one slot's has changed, and where a commit has moved those that it overlaps.
use Rattle.std.proofs.Common.{arith, ◌≡◌, ◌≢◌, ◌⊎◌, ℕ, suc, zero, ◌+◌, ◌<◌, ◌≤◌, Bool, true, false, ◌||◌, not, min, List, [], ◌∷◌, length, Option, Some, None, inl, inr, refl, sym, ap, ◌∙◌, subst}
use Rattle.std.specs.Prelude.{IsSome, slice_get, slice_index_or, slice_set, if◌then◌else◌}
use Rattle.std.proofs.lemmas.Bool.{cases_eq}
use Rattle.std.proofs.lemmas.List.{length-set}
use Rattle.std.proofs.lemmas.Option.{slice_get_read}
use Rattle.std.specs.FinMap.{get, insert, len}
use Rattle.std.specs.Option.{option_map}
use Rattle.mx_space.specs.declared.kept_states.KeptStates.{KeptStates}
use Rattle.mx_space.specs.KeptStates.{kept_at}
use Rattle.mx_tracker.specs.Marks.{is_marked}
use Rattle.mx_tracker.specs.Tracks.{ChangesReads, Tracks, noted_reads}
use Rattle.mx_txn.specs.declared.state.TxnState.{TxnState}
use Rattle.mx_txn.specs.declared.state.TxnState.TheVariants as txn
use Rattle.mx_txn.specs.Slots.{IsLive, Txns, max_open}
use Rattle.mx_txn.proofs.StateLaws.{get-with_state_other, get-with_state_same, len-insert_live}
use Rattle.mx_transactions.specs.Open.{HasSlot, AreInSlots, Open, SlotHas}
use Rattle.mx_transactions.specs.OpenSteps.{ChangesSlot, ChangesTo, Moves, MovesSlot, StaysAt, has_rows, moved_state}
use Rattle.mx_transactions.proofs.OpenLaws.{same_slot}
use Rattle.mx_transactions.proofs.TableLaws.{Trims, changed_table, get-set_other, get-set_same, trimmed_states, trimmed_views}

-- ---- one slot

-- a slot has this now, and the others have what they had
pub record SetsSlot (old new : Open) (slot : ℕ) (now : SlotHas) : Type 0 where
  pub names : new.names ≡ old.names
  pub kept : new.kept ≡ old.kept
  pub here : get new.slots slot ≡ now.state
  pub others : (other : ℕ) → other ≢ slot → get new.slots other ≡ get old.slots other
  pub count : len new.slots ≡ len old.slots
  pub works : new.works ≡ slice_set old.works slot now.work
  pub reads : ChangesReads old.tracks new.tracks slot now.reads

module _ (old new : Open) (slot : ℕ) (now : SlotHas) (sets : SetsSlot old new slot now) where
  set_others : (other : ℕ) → other ≢ slot → StaysAt old new other
  set_others other differs = record {
    state = sets.others other differs;
    work = ap (λ works. slice_get works other) sets.works ∙ get-set_other old.works slot now.work other differs;
    reads = sets.reads.others other differs;
    kept = λ place view some. subst (λ k. IsSome (kept_at place k)) (sym sets.kept) some;
  }

  pub set_changes : slot < length old.works → ChangesTo old new slot now
  set_changes within = record {
    changes = record { names = sets.names; others = set_others; kept = λ commits memory is. ap (kept_at commits) (sym sets.kept) ∙ is };
    has = record {
      state = sym sets.here;
      work = ap (λ works. slice_get works slot) sets.works ∙ get-set_same old.works slot now.work within;
      reads = sym sets.reads.here;
    };
  }

  pub set_table : AreInSlots old → IsSome now.state → AreInSlots new
  set_table table live =
      changed_table old new slot table (subst IsSome (sym sets.here) live) sets.names set_others sets.count
      (ap length sets.works ∙ length-set old.works slot now.work ∙ table.whole)

-- its state is another, and it has another work and other reads
pub sets_state : (old new : Open) (slot : ℕ) (now : SlotHas) (state : TxnState) → IsLive old.slots slot → now.state ≡ Some state → new.names ≡ old.names → new.kept ≡ old.kept
    → new.slots ≡ insert old.slots slot state → new.works ≡ slice_set old.works slot now.work → ChangesReads old.tracks new.tracks slot now.reads → SetsSlot old new slot now
sets_state old new slot now state live is names kept slots works reads = record {
  names = names;
  kept = kept;
  here = ap (λ all. get all slot) slots ∙ get-with_state_same old.slots slot (Some state) ∙ sym is;
  others = λ other differs. ap (λ all. get all other) slots ∙ get-with_state_other old.slots slot (Some state) other differs;
  count = ap len slots ∙ len-insert_live old.slots slot state live;
  works = works;
  reads = reads;
}

-- its state stays
pub sets_work : (old new : Open) (slot : ℕ) (now : SlotHas) → get old.slots slot ≡ now.state → new.names ≡ old.names → new.kept ≡ old.kept → new.slots ≡ old.slots
    → new.works ≡ slice_set old.works slot now.work → ChangesReads old.tracks new.tracks slot now.reads → SetsSlot old new slot now
sets_work old new slot now is names kept slots works reads = record {
  names = names;
  kept = kept;
  here = ap (λ all. get all slot) slots ∙ is;
  others = λ other differs. ap (λ all. get all other) slots;
  count = ap len slots;
  works = works;
  reads = reads;
}

-- what was there is set again
pub set_again : {X : Type 0} (xs : List X) (place : ℕ) (x : X) → slice_get xs place ≡ Some x → slice_set xs place x ≡ xs
set_again [] place x is = refl
set_again (first ∷ xs) zero x is = let same : first ≡ x = cc in ap (λ y. y ∷ xs) (sym same)
set_again (first ∷ xs) (suc place) x is = ap (λ l. first ∷ l) (set_again xs place x is)

pub reads_stay : (tracks : Tracks) (slot : ℕ) → ChangesReads tracks tracks slot (noted_reads tracks slot)
reads_stay tracks slot = record { here = refl; others = λ other differs. refl }

-- nothing changes
pub nothing_changes : (all : Open) (slot : ℕ) (has : SlotHas) → HasSlot all slot has → ChangesTo all all slot has
nothing_changes all slot has is = record {
  changes = record { names = refl; others = λ other differs. record { state = refl; work = refl; reads = refl; kept = λ place view some. some }; kept = λ commits memory is. is };
  has = is;
}

-- the states that are kept change
pub kept_table : (all : Open) (kept : KeptStates) → AreInSlots all → AreInSlots (record all { kept = kept })
kept_table all kept table = record {
  live = table.live;
  apart = table.apart;
  count = table.count;
  whole = table.whole;
  vacant = λ slot within none.
      let (has, is, vacant) = table.vacant slot within none in (has, record { state = is.state; work = is.work; reads = is.reads }, vacant);
}

-- only the state of one changes
pub state_table : (all : Open) (slots : Txns) (slot : ℕ) (state : TxnState) → AreInSlots all → IsLive all.slots slot → slots ≡ insert all.slots slot state → AreInSlots (record all { slots = slots })
state_table all slots slot state table live is =
    changed_table all (record all { slots = slots }) slot table
    (subst IsSome (sym (ap (λ some. get some slot) is ∙ get-with_state_same all.slots slot (Some state))) refl) refl
    (λ other differs. record {
      state = ap (λ some. get some other) is ∙ get-with_state_other all.slots slot (Some state) other differs;
      work = refl;
      reads = refl;
      kept = λ place view some. some;
    })
    (ap len is ∙ len-insert_live all.slots slot state live) table.whole

pub some_same : {X : Type 0} {one other : X} → Some one ≡ Some other → one ≡ other
some_same {X = X} {one = one} e = ap (λ o. by_option o) e
  where
    by_option : Option X → X
    by_option None = one
    by_option (Some x) = x

-- the item of a place
pub item_there : {X : Type 0} (xs : List X) (slot place : ℕ) (x : X) → place ≡ slot → place < max_open → length xs ≡ max_open → x ≡ slice_index_or xs place x → slice_get xs slot ≡ Some x
item_there xs slot place x same less whole is = slice_get_read xs max_open slot x (sym whole) (omega (arith, same, less)) (is ∙ ap (λ n. slice_index_or xs n x) same)

-- ---- rows

module _ (is_schema marked : Bool) (commits : ℕ) (old new : Open) (slot : ℕ) where
  -- what a commit makes of a slot that has this
  abbrev pub MovesTo : SlotHas → Type 0
  MovesTo has = (now : SlotHas) × MovesSlot is_schema marked commits has now × ChangesTo old new slot now

  pub active_moved : (since : ℕ) (has : SlotHas) → has.state ≡ Some (txn.Active since) → marked ≡ true
      → (now : SlotHas) × (now.state ≡ Some (if has_rows has.work || is_schema then txn.Aborted commits else txn.View commits)) × ChangesTo old new slot now → MovesTo has
  active_moved since has active is (now, state, changes) = (
    now,
    record {
      state = state ∙ ap (λ (m : Bool). Some (moved_state is_schema m (has_rows has.work) commits (txn.Active since))) (sym is) ∙ ap (option_map (moved_state is_schema marked (has_rows has.work) commits)) (sym active);
      active = λ since still. absurd (by_test (has_rows has.work || is_schema) since (sym state ∙ still));
      vacant = λ none. let both : None ≡ Some (txn.Active since) = sym none ∙ active in absurd cc;
    },
    changes,
  )
    where
      by_test : (b : Bool) (since : ℕ) → Some (if b then txn.Aborted commits else txn.View commits) ≡ Some (txn.Active since) → ⊥
      by_test true since e = cc
      by_test false since e = cc

  pub view_doomed : (at : ℕ) (has : SlotHas) → has.state ≡ Some (txn.View at) → is_schema ≡ true → ChangesTo old new slot (record has { state = Some (txn.Aborted at) }) → MovesTo has
  view_doomed at has view is changes = (
    record has { state = Some (txn.Aborted at) },
    record {
      state = ap (λ (s : Bool). Some (moved_state s marked (has_rows has.work) commits (txn.View at))) (sym is) ∙ ap (option_map (moved_state is_schema marked (has_rows has.work) commits)) (sym view);
      active = λ since still. absurd cc;
      vacant = λ none. let both : None ≡ Some (txn.View at) = sym none ∙ view in absurd cc;
    },
    changes,
  )

-- a slot stays
pub stays_moved : (is_schema marked : Bool) (commits : ℕ) (all : Open) (slot : ℕ) (state : TxnState) (has : SlotHas) → HasSlot all slot has → has.state ≡ Some state
    → moved_state is_schema marked (has_rows has.work) commits state ≡ state → MovesTo is_schema marked commits all all slot has
stays_moved is_schema marked commits all slot state has is there stays = (
  has,
  record {
    state = there ∙ ap Some (sym stays) ∙ ap (option_map (moved_state is_schema marked (has_rows has.work) commits)) (sym there);
    active = λ since still. (refl, refl);
    vacant = λ none. refl;
  },
  nothing_changes all slot has is,
)

pub written_rows : (result has : Bool) → result ≡ not has → result ≡ false → has ≡ true
written_rows result true e none = refl
written_rows result false e none = absurd cc

-- ---- slots one after the other

-- each slot below this number is moved, and each from there on has what it had
pub record MovesBelow (old new : Open) (marks : List Bool) (is_schema : Bool) (commits from : ℕ) : Type 0 where
  pub names : new.names ≡ old.names
  pub kept : new.kept ≡ old.kept
  pub moved : (slot : ℕ) → slot < from → (has : SlotHas) → HasSlot old slot has → (now : SlotHas) × HasSlot new slot now × MovesSlot is_schema (is_marked marks slot) commits has now
  pub later : (slot : ℕ) → from ≤ slot → StaysAt old new slot

module _ (marks : List Bool) (is_schema : Bool) (commits : ℕ) where
  pub none_moved : (all : Open) → MovesBelow all all marks is_schema commits 0
  none_moved all = record {
    names = refl;
    kept = refl;
    moved = λ slot below. absurd (omega (arith, below));
    later = λ slot above. record { state = refl; work = refl; reads = refl; kept = λ place view some. some };
  }

  -- a vacant slot stays
  vacant_moves : (marked : Bool) (has : SlotHas) → has.state ≡ None → MovesSlot is_schema marked commits has has
  vacant_moves marked has none =
      record { state = rw none refl; active = λ since is. (refl, refl); vacant = λ same. refl }

  -- one slot more
  module _ (old mid new : Open) (from next : ℕ) (below : MovesBelow old mid marks is_schema commits from) (above : from ≤ next) (within : next < length mid.works)
      (vacant : (slot : ℕ) → from ≤ slot → slot < next → get mid.slots slot ≡ None)
      (kept : new.kept ≡ mid.kept)
      (moves : (has : SlotHas) → HasSlot mid next has → MovesTo is_schema (is_marked marks next) commits mid new next has) where
    next_has : (has : SlotHas) × HasSlot mid next has
    next_has = let (work, is) = there mid.works next within in (record { state = get mid.slots next; work = work; reads = noted_reads mid.tracks next }, record { state = refl; work = is; reads = refl })
      where
        there : {X : Type 0} (xs : List X) (place : ℕ) → place < length xs → (x : X) × (slice_get xs place ≡ Some x)
        there [] place within = absurd (omega (arith, within))
        there (x ∷ xs) zero within = (x, refl)
        there (x ∷ xs) (suc place) within = there xs place (omega (arith, within))

    changes : ChangesSlot mid new next
    changes = (moves next_has.0 next_has.1).2.changes

    stays : (slot : ℕ) → from ≤ slot → slot ≢ next → StaysAt old new slot
    stays slot later differs =
        let first = below.later slot later in
        let second = changes.others slot differs in
        record {
          state = second.state ∙ first.state;
          work = second.work ∙ first.work;
          reads = second.reads ∙ first.reads;
          kept = λ place view some. subst (λ k. IsSome (kept_at place k)) (sym (kept ∙ below.kept)) some;
        }

    moved_more : (slot : ℕ) → slot < next + 1 → (has : SlotHas) → HasSlot old slot has → (now : SlotHas) × HasSlot new slot now × MovesSlot is_schema (is_marked marks slot) commits has now
    moved_more slot less has is = by_place (cases_eq slot next) (cases_eq (min (slot + 1) from) (slot + 1))
      where
        by_place : (slot ≡ next) ⊎ (slot ≡ next → ⊥) → (min (slot + 1) from ≡ slot + 1) ⊎ (min (slot + 1) from ≡ slot + 1 → ⊥)
            → (now : SlotHas) × HasSlot new slot now × MovesSlot is_schema (is_marked marks slot) commits has now
        by_place (inl same) place =
            let here = same_slot old mid slot has (below.later slot (omega (arith, same, above))) is in
            let (now, moves, changes) = moves has (subst (λ s. HasSlot mid s has) same here) in
            (now, subst (λ s. HasSlot new s now) (sym same) changes.has, subst (λ s. MovesSlot is_schema (is_marked marks s) commits has now) (sym same) moves)
        by_place (inr differs) (inl first) =
            let (now, here, moves) = below.moved slot (omega (arith, first)) has is in
            (now, same_slot mid new slot now (changes.others slot differs) here, moves)
        by_place (inr differs) (inr second) =
            let later : from ≤ slot = omega (arith, second) in
            let before : slot < next = omega (arith, less, differs) in
            let none : has.state ≡ None = is.state ∙ sym (below.later slot later).state ∙ vacant slot later before in
            (has, same_slot old new slot has (stays slot later differs) is, vacant_moves (is_marked marks slot) has none)

    pub one_moved : MovesBelow old new marks is_schema commits (next + 1)
    one_moved = record {
      names = changes.names ∙ below.names;
      kept = kept ∙ below.kept;
      moved = moved_more;
      later = λ slot later. stays slot (omega (arith, later, above)) (λ same. absurd (omega (arith, same, later)));
    }

  -- all are moved, and the states that no view needs any more are dropped
  pub moves_all : (old mid new : Open) (from : ℕ) → MovesBelow old mid marks is_schema commits from → ((slot : ℕ) → from ≤ slot → get mid.slots slot ≡ None)
      → new.names ≡ mid.names → new.slots ≡ mid.slots → new.works ≡ mid.works → new.tracks ≡ mid.tracks → Trims mid new → Moves old new marks is_schema commits
  moves_all old mid new from below vacant names slots works tracks trims = record {
    names = names ∙ below.names;
    each = λ slot within has is. same has slot (each slot has is (cases_eq (min from (slot + 1)) (slot + 1)));
    views = λ slot place view some. trimmed_views mid new trims slot place view (subst (λ k. IsSome (kept_at place k)) (sym below.kept) some);
    kept = λ number memory is. ap (kept_at number) (sym below.kept) ∙ trimmed_states mid new trims number memory is;
  }
    where
      same : (has : SlotHas) (slot : ℕ) → (now : SlotHas) × HasSlot mid slot now × MovesSlot is_schema (is_marked marks slot) commits has now
          → (now : SlotHas) × HasSlot new slot now × MovesSlot is_schema (is_marked marks slot) commits has now
      same has slot (now, is, moves) = (
        now,
        record { state = is.state ∙ ap (λ s. get s slot) (sym slots); work = ap (λ w. slice_get w slot) works ∙ is.work; reads = is.reads ∙ ap (λ t. noted_reads t slot) (sym tracks) },
        moves,
      )

      each : (slot : ℕ) (has : SlotHas) → HasSlot old slot has → (min from (slot + 1) ≡ slot + 1) ⊎ (min from (slot + 1) ≡ slot + 1 → ⊥)
          → (now : SlotHas) × HasSlot mid slot now × MovesSlot is_schema (is_marked marks slot) commits has now
      each slot has is (inl less) = below.moved slot (omega (arith, less)) has is
      each slot has is (inr more) =
          let later : from ≤ slot = omega (arith, more) in
          let stays = below.later slot later in
          (has, same_slot old mid slot has stays is, vacant_moves (is_marked marks slot) has (is.state ∙ sym stays.state ∙ vacant slot later))
