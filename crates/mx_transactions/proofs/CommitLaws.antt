-- What a commit makes of open transactions.
use Rattle.std.proofs.Common.{◌≡◌, ℕ, zero, suc, ◌<◌, Bool, true, false, ◌||◌, List, [], ◌∷◌, ◌++◌, length, map, Some, None, refl, sym, ap, ◌∙◌, subst, arith}
use Rattle.std.specs.Prelude.{IsSome, slice_get, if◌then◌else◌}
use Rattle.std.proofs.lemmas.List.{length-append}
use Rattle.std.specs.List.{AllByRecursion, AllZip}
use Rattle.std.specs.Option.{option_map}
use Rattle.mx_row.specs.declared.tx.Tx.{Tx}
use Rattle.mx_schema.specs.Sound.{IsSound}
use Rattle.mx_schema.specs.State.{State}
use Rattle.mx_space.specs.KeptStates.{kept_at}
use Rattle.mx_space.specs.Stored.{Holds}
use Rattle.mx_tracker.specs.declared.touched.Touched as coded
use Rattle.mx_tracker.specs.Marks.{is_marked}
use Rattle.mx_tracker.specs.Overlaps.{is_overlapped}
use Rattle.mx_txn.specs.declared.state.TxnState.{TxnState}
use Rattle.mx_txn.specs.declared.state.TxnState.TheVariants as txn
use Rattle.mx_txn.specs.Slots.{max_open}
use Rattle.mx_model.specs.declared.ids.Ids.{Ids}
use Rattle.mx_model.specs.Alone.{AllStandAlone, HaveBytes, StandsAlone, answers_alone}
use Rattle.mx_model.specs.Answers.{state_after_rows}
use Rattle.mx_model.specs.Frame.{reads_in}
use Rattle.mx_model.specs.Overlaps.{Active, Doomed, Standing, Transaction, View, doomed_or_view, has_row, is_some_row, place_by, reads_before, standing_after_commit, state_after_first, statements_in}
use Rattle.mx_model.specs.RunAlone.{Run, run_alone}
use Rattle.mx_model.specs.Streams.{Streams, standing_now}
use Rattle.mx_model.specs.Touches.{rows_meet}
use Rattle.mx_model.specs.Transactions.{is_schema_commit}
use Rattle.mx_model.proofs.AlonePlaces.{all_reads, never_overlapped, whole_state}
use Rattle.mx_model.proofs.AloneSound.{journal_sound}
use Rattle.mx_model.proofs.FrameRuns.{rows_stay_sound}
use Rattle.mx_model.proofs.JournalLaws.{state_after-append}
use Rattle.mx_model.proofs.OverlapCommits.{prefix_kept, standing_moved}
use Rattle.mx_model.specs.statements.Answer.{Answer}
use Rattle.mx_transactions.specs.declared.names.Named.{Named}
use Rattle.mx_transactions.specs.Open.{newest_state, AreStates, HasRun, HasSlot, HasStanding, HoldsOpen, IsOpen, Open, SlotHas, reads_made}
use Rattle.mx_transactions.specs.OpenSteps.{AreMarks, ViewsAreKept, Moves, MovesSlot, SpellsRows, has_rows, moved_state}
use Rattle.mx_transactions.proofs.CarriedLaws.{carried, keys_meet, noted_meet}

-- streams after one more commit
abbrev pub committed : Streams → Tx → Streams
committed streams commit = record streams { journal = streams.journal ++ commit ∷ [] }

-- what stands in a list stands within it
item_within : {X : Type 0} (items : List X) (place : ℕ) (item : X) → slice_get items place ≡ Some item → place < length items
item_within [] place item is = absurd cc
item_within (first ∷ items) zero item is = omega arith
item_within (first ∷ items) (suc place) item is = let rest = item_within items place item is in omega (arith, rest)

module _ (streams : Streams) (commit : Tx) (all : AllStandAlone streams) (bytes : HaveBytes commit.rows) (old new : Open) (marks : List Bool) (keys : List coded.Touched)
    (is_schema : Bool) (schema : is_schema ≡ is_schema_commit commit) (spells : SpellsRows (newest_state streams) commit.rows keys) (are : AreMarks old marks keys)
    (moves : Moves old new marks is_schema (length streams.journal)) where
  abbrev ids : Ids
  ids = streams.base.ids

  abbrev base : State
  base = streams.base.state

  abbrev journal : List Tx
  journal = streams.journal

  abbrev longer : Streams
  longer = committed streams commit

  sound : IsSound (newest_state streams)
  sound = journal_sound base journal all.sound all.bytes

  newest_then : newest_state longer ≡ state_after_rows (newest_state streams) commit.rows
  newest_then = state_after-append base journal (commit ∷ [])

  -- the states that are kept are those of the longer journal
  pub states_kept : AreStates streams old.kept → AreStates longer new.kept
  states_kept states number memory is =
      let was = states number memory (moves.kept number memory is) in (
        omega (arith, was.0, longer_by),
        subst (Holds memory) (sym (prefix_kept base journal (commit ∷ []) number was.0)) was.1,
      )
    where
      longer_by : length longer.journal ≡ suc (length journal)
      longer_by = let one = length-append journal (commit ∷ []) in omega (arith, one)

  module _ (one : Transaction) (alone : StandsAlone ids base journal one) where
    abbrev run : Run
    run = run_alone ids (newest_state streams) (statements_in one.steps)

    abbrev meets : Bool
    meets = rows_meet (newest_state streams) commit.rows (reads_before (suc (length journal)) one.steps)

    abbrev stood : Standing
    stood = standing_now streams false one

    abbrev stands : Standing
    stands = standing_now longer false one

    stands_then : stands ≡ standing_after_commit (has_row ids base journal (length journal) one.steps) (is_schema_commit commit) meets (length journal) stood
    stands_then = standing_moved ids base journal commit one alone.within

    -- what it has read is met exactly where the keys lie in what was noted
    noted_met : (has : SlotHas) → HasRun (newest_state streams) run has.work has.reads → stood ≡ Active → is_overlapped keys has.reads ≡ meets
    noted_met has keeps active =
        keys_meet (newest_state streams) commit.rows keys spells has.reads (reads_made run.answers) keeps.reads
        ∙ noted_meet (newest_state streams) commit.rows run.answers
        ∙ ap (λ reads. rows_meet (newest_state streams) commit.rows reads) (sym (all_reads (length journal) one.steps run.answers alone.within.made (alone.reads ∙ same_reads)))
      where
        same_reads : map (λ (answer : Answer). answer.reads) (answers_alone ids base journal one) ≡ map (λ (answer : Answer). answer.reads) run.answers
        same_reads =
            ap (λ state. map (λ (answer : Answer). answer.reads) (run_alone ids state (statements_in one.steps)).answers)
            (ap (λ overlap. state_after_first base journal (place_by (length journal) overlap)) (never_overlapped ids base journal one active) ∙ whole_state base journal)

    -- it has a row exactly where rows were kept
    rows_had : (has : SlotHas) → HasRun (newest_state streams) run has.work has.reads → has_row ids base journal (length journal) one.steps ≡ has_rows has.work
    rows_had has keeps =
        ap (λ state. is_some_row (run_alone ids state (statements_in one.steps)).rows) (whole_state base journal) ∙ ap is_some_row (sym keeps.written.rows)

    -- ---- how it stands then

    -- what was done stands on the state after the commit
    still_active : (has now : SlotHas) → HasRun (newest_state streams) run has.work has.reads → stood ≡ Active → meets ≡ false → now.work ≡ has.work → now.reads ≡ has.reads
        → HasRun (newest_state longer) (run_alone ids (newest_state longer) (statements_in one.steps)) now.work now.reads
    still_active has now keeps active missed work reads =
        subst (λ state. HasRun state (run_alone ids state (statements_in one.steps)) now.work now.reads) (sym newest_then)
        (subst (λ w. HasRun after (run_alone ids after (statements_in one.steps)) w now.reads) (sym work)
        (subst (λ r. HasRun after (run_alone ids after (statements_in one.steps)) has.work r) (sym reads)
        (carried ids (newest_state streams) commit.rows (statements_in one.steps) has.work has.reads (rows_stay_sound (newest_state streams) commit.rows sound bytes) alone.plain missed_reads keeps)))
      where
        after : State
        after = state_after_rows (newest_state streams) commit.rows

        missed_reads : rows_meet (newest_state streams) commit.rows (reads_in run.answers) ≡ false
        missed_reads =
            sym (noted_meet (newest_state streams) commit.rows run.answers)
            ∙ sym (keys_meet (newest_state streams) commit.rows keys spells has.reads (reads_made run.answers) keeps.reads)
            ∙ noted_met has keeps active ∙ missed

    abbrev has_written : Bool
    has_written = has_row ids base journal (length journal) one.steps

    abbrev changes_schema : Bool
    changes_schema = is_schema_commit commit

    module _ (named : Named) (within : named.slot < max_open) (is : IsOpen streams old named one) (ready : ViewsAreKept old marks (length journal) None) where
      abbrev has : SlotHas
      has = is.has

      abbrev moved : (now : SlotHas) × HasSlot new named.slot now × MovesSlot is_schema (is_marked marks named.slot) (length journal) has now
      moved = moves.each named.slot within has is.is

      abbrev now : SlotHas
      now = moved.0

      -- its state is moved as the marks say
      state_then : (state : TxnState) → has.state ≡ Some state
          → now.state ≡ Some (moved_state is_schema (is_marked marks named.slot) (has_rows has.work) (length journal) state)
      state_then state was = moved.2.state ∙ ap (option_map (moved_state is_schema (is_marked marks named.slot) (has_rows has.work) (length journal))) was

      -- an active one
      from_active : stood ≡ Active → HasStanding streams old.kept one Active has
          → HasStanding longer new.kept one (standing_after_commit has_written changes_schema meets (length journal) Active) now
      from_active active (was, keeps) = by_tests meets (has_written || changes_schema) refl refl moved_to
        where
          mark : is_marked marks named.slot ≡ meets
          mark = are named.slot within ∙ ap (is_overlapped keys) (sym is.is.reads) ∙ noted_met has keeps active

          moved_to : now.state ≡ Some (if meets then (if has_written || changes_schema then txn.Aborted (length journal) else txn.View (length journal)) else txn.Active one.begun)
          moved_to =
              state_then (txn.Active one.begun) was
              ∙ (λ i. Some (if mark i then (if sym (rows_had has keeps) i || schema i then txn.Aborted (length journal) else txn.View (length journal)) else txn.Active one.begun))

          neither : (a b : Bool) → (a || b) ≡ false → a ≡ false
          neither true b e = absurd cc
          neither false b e = refl

          by_tests : (met dooms : Bool) → meets ≡ met → (has_written || changes_schema) ≡ dooms
              → now.state ≡ Some (if met then (if dooms then txn.Aborted (length journal) else txn.View (length journal)) else txn.Active one.begun)
              → HasStanding longer new.kept one (if met then doomed_or_view dooms (length journal) else Active) now
          by_tests true true met dooms state = (length journal, state)
          by_tests true false met dooms state =
              let unwritten : has_rows has.work ≡ false = sym (rows_had has keeps) ∙ neither has_written changes_schema dooms in
              let there : IsSome (kept_at (length journal) old.kept) =
              ready named.slot one.begun (λ same. cc) (sym is.is.state ∙ was) (mark ∙ met) has.work is.is.work unwritten in
              (state, moves.views named.slot (length journal) (sym moved.1.state ∙ state) there)
          by_tests false dooms met is_dooms state =
              let same = moved.2.active one.begun state in
              (state, still_active has now keeps active met same.0 same.1)

      from_view : (place : ℕ) → HasStanding streams old.kept one (View place) has
          → HasStanding longer new.kept one (standing_after_commit has_written changes_schema meets (length journal) (View place)) now
      from_view place (was, there) = by_test changes_schema (state_then (txn.View place) was ∙ (λ i. Some (if schema i then txn.Aborted place else txn.View place)))
        where
          by_test : (dooms : Bool) → now.state ≡ Some (if dooms then txn.Aborted place else txn.View place) → HasStanding longer new.kept one (doomed_or_view dooms place) now
          by_test true state = (place, state)
          by_test false state = (state, moves.views named.slot place (sym moved.1.state ∙ state) there)

      from_any : (from : Standing) → stood ≡ from → HasStanding streams old.kept one from has
          → HasStanding longer new.kept one (standing_after_commit has_written changes_schema meets (length journal) from) now
      from_any Active active keeps = from_active active keeps
      from_any (View place) view keeps = from_view place keeps
      from_any Doomed doomed (by, was) = (by, state_then (txn.Aborted by) was)

      pub moved_open : IsOpen longer new named one
      moved_open = record {
        name = is.name;
        has = now;
        is = moved.1;
        keeps = subst (λ how. HasStanding longer new.kept one how now) (sym stands_then) (from_any stood refl is.keeps);
      }

  -- all of them
  each_moved : (names : List Named) (ones : List Transaction) → length old.works ≡ max_open → ViewsAreKept old marks (length journal) None
      → AllByRecursion (StandsAlone ids base journal) ones → AllZip (IsOpen streams old) names ones → AllZip (IsOpen longer new) names ones
  each_moved [] [] whole ready alone keep = tt
  each_moved [] (one ∷ ones) whole ready alone keep = absurd keep
  each_moved (named ∷ names) [] whole ready alone keep = absurd keep
  each_moved (named ∷ names) (one ∷ ones) whole ready alone (first, keep) = (
    moved_open one alone.0 named (subst (λ n. named.slot < n) whole (item_within old.works named.slot first.has.work first.is.work)) first ready,
    each_moved names ones whole ready alone.1 keep,
  )

  -- The commit, with what it makes of the slots, leaves the open transactions of the longer journal.
  pub all_moved : length old.works ≡ max_open → ViewsAreKept old marks (length journal) None → HoldsOpen streams old → HoldsOpen longer new
  all_moved whole ready holds = record {
    each = subst (λ names. AllZip (IsOpen longer new) names streams.transactions) (sym moves.names)
        (each_moved old.names streams.transactions whole ready all.each holds.each);
    kept = states_kept holds.kept;
  }
