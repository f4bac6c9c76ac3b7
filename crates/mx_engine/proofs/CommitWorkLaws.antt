-- What a COMMIT makes.
use Rattle.std.proofs.Common.{◌≡◌, ◌≢◌, ℕ, zero, suc, ◌+◌, ◌-◌, ◌%◌, ◌^◌, ◌<◌, ◌≤◌, Bool, true, false, not, ◌&&◌, ◌||◌, List, [], ◌∷◌, ◌++◌, length, Option, Some, None, Result, Ok, Err, refl, sym, ap, ◌∙◌, subst, append-nil, append_assoc, length-append, arith, true≢false, eqb-true, eq-eqb}
use Rattle.std.proofs.lemmas.List.Folds.{list_any-append}
use Rattle.std.specs.Prelude.{IsSome, slice_get, slice_index, slice_set, ◌==◌, if◌then◌else◌}
use Rattle.std.specs.FinMap.{get}
use Rattle.std.specs.List.{AllByRecursion, AllZip, list_any}
use Rattle.std.specs.Option.{option_map, option_to_list}
use Rattle.mx_base.specs.declared.ids.TxnName.{TxnName}
use Rattle.mx_base.specs.declared.refusal.Refusal.{Refusal}
use Rattle.mx_base.specs.declared.refusal.Refusal.TheVariants.{ReadOnly, TransactionTooLong}
use Rattle.mx_row.specs.declared.row.Row.{Row}
use Rattle.mx_row.specs.declared.tx.Tx.{Tx}
use Rattle.mx_row.specs.Clocks.{clock_after, clock_after_one}
use Rattle.mx_row.specs.Limits.{has_room}
use Rattle.mx_row.proofs.ClockLaws.{clock_after-append}
use Rattle.mx_schema.specs.Catalogues.{schema_of}
use Rattle.mx_schema.specs.Sound.{IsSound}
use Rattle.mx_schema.specs.State.{State, tuples_in}
use Rattle.mx_schema.proofs.AloneLaws.{each_follows}
use Rattle.mx_key.specs.Arrays.{key_array}
use Rattle.mx_key.specs.Comparable.{comparable_of}
use Rattle.mx_key.specs.Keys.{AreFit, Key}
use Rattle.mx_space.specs.declared.state.State as coded_state
use Rattle.mx_space.specs.KeptStates.{kept_at}
use Rattle.mx_entries.specs.PlainChanges.{PlainChange, state_with_all}
use Rattle.mx_space.specs.Stored.{Holds, HoldsBy}
use Rattle.mx_tracker.specs.declared.read.Read as noted
use Rattle.mx_tracker.specs.declared.touched.Touched as coded
use Rattle.mx_tracker.specs.Marks.{is_marked}
use Rattle.mx_tracker.specs.Overlaps.{is_overlapped, lies_in_read}
use Rattle.mx_tracker.specs.Tracks.{noted_reads}
use Rattle.mx_txn.specs.declared.state.TxnState.TheVariants as txn
use Rattle.mx_txn.specs.Slots.{max_open}
use Rattle.mx_write.specs.declared.writable.Writer.TheVariants.{Client}
use Rattle.mx_write.specs.Change.{Change}
use Rattle.mx_write.specs.Judge.{judged_write}
use Rattle.mx_write.specs.Made.{Made, row_with}
use Rattle.mx_write.specs.Writable.{describes_schema}
use Rattle.mx_write.specs.Writes.{Delete, Insert, Replace, Update, Upsert, Write}
use Rattle.mx_write.proofs.WrittenLaws.{makes, wrote_row}
use Rattle.mx_write.specs.Touches.{AddsTouched, SpellsTouched, Touched, is_met, touched_at}
use Rattle.mx_model.specs.declared.ids.Ids.{Ids}
use Rattle.mx_model.specs.declared.reply.Reply.TheVariants.{Empty}
use Rattle.mx_model.specs.Alone.{AllStandAlone, HaveBytes, StandsAlone}
use Rattle.mx_model.specs.Answers.{answer_in_space}
use Rattle.mx_model.specs.Bases.{writable_node}
use Rattle.mx_model.specs.Frame.{IsDataStatement, IsNoSchemaWrite, OperationHasBytes}
use Rattle.mx_model.specs.RunAlone.{answer_in_run, run_alone, statement_answer, within_limits, writes}
use Rattle.mx_model.specs.statements.Answer.{Answer, refusal_after, refusal_alone}
use Rattle.mx_model.specs.statements.Select.{iterator_of}
use Rattle.mx_model.specs.statements.Statement.{Operation, Selects, Statement, Writes}
use Rattle.mx_model.specs.statements.Write.{answer_of_outcome}
use Rattle.mx_model.specs.Overlaps.{Transaction, state_after_first, statements_in}
use Rattle.mx_model.specs.RunTouches.{changes_of, stood_under}
use Rattle.mx_model.specs.Streams.{Ends, Streams, commit_with, is_name, without_named}
use Rattle.mx_model.specs.Transactions.{is_schema_commit, is_schema_row, state_after}
use Rattle.mx_model.proofs.AlonePlaces.{whole_state}
use Rattle.mx_model.proofs.AloneCommits.{commit_makes, run_makes}
use Rattle.mx_model.proofs.AloneSound.{journal_sound, rows_sound, run_bytes}
use Rattle.mx_model.proofs.EachLaws.{each_kept}
use Rattle.mx_model.proofs.RunTouchLaws.{run_is_own, run_touches}
use Rattle.mx_model.proofs.AnswerLaws.{select_no_row}
use Rattle.mx_engine.specs.declared.engine.Engine.{Engine}
use Rattle.mx_transactions.specs.declared.names.Named.{Named}
use Rattle.mx_transactions.specs.declared.work.ChangedKey.{ChangedKey}
use Rattle.mx_transactions.specs.declared.work.Work.{Work}
use Rattle.mx_transactions.specs.Open.{HaveOwnSlots, HasSlot, HasStanding, HoldsOpen, IsOpen, Open, SlotHas, SpellsKey, in_order, newest_state, slot_named}
use Rattle.mx_transactions.specs.OpenSteps.{AreMarks, ViewsAreKept, KeepsMore, Moves, MovesSlot, SpellsRows, StaysAt, beside, has_rows, moved_state}
use Rattle.mx_transactions.proofs.CommitLaws.{all_moved, committed}
use Rattle.mx_transactions.proofs.OpenLaws.{all_stay}
use Rattle.mx_engine.proofs.OutcomeLaws.{lsn_is}
use Rattle.mx_engine.specs.Standing.{HasStreams}
use Rattle.mx_engine.specs.Steps.{IsActiveIn, TellsOutcome, newest_run}

-- ---- the tuples that stand under changed keys

-- the same as `stood_under`, of changes in the order in which they were made
abbrev pub stood_all : State → List Change → List Touched
stood_all before [] = []
stood_all before (change ∷ later) = touched_at change.space change.key (get (tuples_in before change.space) change.key) ++ stood_all before later

stood_both : (before : State) (own later : List Change) → stood_all before (own ++ later) ≡ stood_all before own ++ stood_all before later
stood_both before [] later = refl
stood_both before (change ∷ own) later =
    ap (λ rest. touched_at change.space change.key (get (tuples_in before change.space) change.key) ++ rest) (stood_both before own later)
    ∙ sym (append_assoc (touched_at change.space change.key (get (tuples_in before change.space) change.key)) (stood_all before own) (stood_all before later))

stood_in_order : (before : State) (own : List Change) → stood_all before (in_order own) ≡ stood_under before own
stood_in_order before [] = refl
stood_in_order before (change ∷ earlier) =
    stood_both before (in_order earlier) (change ∷ [])
    ∙ (λ i. stood_in_order before earlier i ++ append-nil (touched_at change.space change.key (get (tuples_in before change.space) change.key)) i)

-- keys were added for the first of the changes; these are left
pub record StoodPart (before : State) (own : List Change) (left : List ChangedKey) (keys : List coded.Touched) : Type 0 where
  pub done : List Touched
  pub later : List Change
  pub spells : SpellsTouched before done keys
  pub changed : AllZip SpellsKey left later
  pub whole : stood_under before own ≡ done ++ stood_all before later

pub stood_first : (before : State) (own : List Change) (changed : List ChangedKey) (keys : List coded.Touched) → keys ≡ [] → AllZip SpellsKey changed (in_order own)
    → StoodPart before own changed keys
stood_first before own changed keys none each = record {
  done = [];
  later = in_order own;
  spells = λ read noted spells. ap (list_any (lies_in_read noted)) none;
  changed = each;
  whole = sym (stood_in_order before own);
}

spells_both : (before : State) (a b : List Touched) (some more : List coded.Touched) → SpellsTouched before a some → SpellsTouched before b more → SpellsTouched before (a ++ b) (some ++ more)
spells_both before a b some more first second = λ read noted spells.
    list_any-append (lies_in_read noted) some more
    ∙ (λ i. first read noted spells i || second read noted spells i)
    ∙ sym (list_any-append (is_met before read) a b)

-- one more
pub stood_more : (before : State) (own : List Change) (first : ChangedKey) (left : List ChangedKey) (old new : List coded.Touched) → StoodPart before own (first ∷ left) old
    → ((key : Key) → AreFit key → first.key ≡ comparable_of key → AddsTouched before (touched_at first.space.0 key (get (tuples_in before first.space.0) key)) old new)
    → StoodPart before own left new
stood_more before own first left old new part adds = by_later part.later part.changed part.whole
  where
    by_later : (later : List Change) → AllZip SpellsKey (first ∷ left) later → stood_under before own ≡ part.done ++ stood_all before later → StoodPart before own left new
    by_later [] each whole = absurd each
    by_later (change ∷ later) (spells, each) whole =
        let stood = touched_at change.space change.key (get (tuples_in before change.space) change.key) in
        let (more, is, means) = adds change.key spells.fit spells.key in record {
          done = part.done ++ stood;
          later = later;
          spells = subst (SpellsTouched before (part.done ++ stood)) (sym is)
              (spells_both before part.done stood old more part.spells
              (subst (λ n. SpellsTouched before (touched_at n change.key (get (tuples_in before n) change.key)) more) spells.space means));
          changed = each;
          whole = whole ∙ sym (append_assoc part.done stood (stood_all before later));
        }

pub stood_whole : (before : State) (own : List Change) (keys : List coded.Touched) → StoodPart before own [] keys → SpellsTouched before (stood_under before own) keys
stood_whole before own keys part = by_later part.later part.changed part.whole
  where
    by_later : (later : List Change) → AllZip SpellsKey [] later → stood_under before own ≡ part.done ++ stood_all before later → SpellsTouched before (stood_under before own) keys
    by_later [] each whole = subst (λ touched. SpellsTouched before touched keys) (sym (whole ∙ append-nil part.done)) part.spells
    by_later (change ∷ later) each whole = absurd each

pub none_left : (left : List ChangedKey) → length left ≡ 0 → left ≡ []
none_left [] none = refl
none_left (first ∷ left) none = absurd (omega (arith, none))

-- ---- marks

exchanged : (a b c d : Bool) → ((a || b) || (c || d)) ≡ ((a || c) || (b || d))
exchanged true b c d = refl
exchanged false true true d = refl
exchanged false true false d = refl
exchanged false false c d = refl

pub overlapped_both : (a b : List coded.Touched) (reads : List noted.Read) → is_overlapped (a ++ b) reads ≡ (is_overlapped a reads || is_overlapped b reads)
overlapped_both a b [] = refl
overlapped_both a b (read ∷ reads) =
    (λ i. list_any-append (lies_in_read read) a b i || overlapped_both a b reads i)
    ∙ exchanged (list_any (lies_in_read read) a) (list_any (lies_in_read read) b) (is_overlapped a reads) (is_overlapped b reads)

-- the keys that a run put and those that stood under its keys stand for its rows
pub run_spelled : (engine : Engine) (streams : Streams) (name : TxnName) (slot : ℕ) (one : Transaction) (puts stood : List coded.Touched) → AllStandAlone streams
    → (is : IsActiveIn engine streams name slot one) → puts ≡ is.is_open.kept.work.puts
    → SpellsTouched (newest_state streams) (stood_under (newest_state streams) (changes_of (newest_run streams one).answers)) stood
    → SpellsRows (newest_state streams) (newest_run streams one).rows (puts ++ stood)
run_spelled engine streams name slot one puts stood all is same means = λ read reading spells.
    let before = newest_state streams in
    let own = changes_of (newest_run streams one).answers in
    list_any-append (lies_in_read reading) puts stood
    ∙ ap (λ keys. list_any (lies_in_read reading) keys || list_any (lies_in_read reading) stood) same
    ∙ (λ i. is.run.written.puts read reading spells i || means read reading spells i)
    ∙ sym (run_touches streams.base.ids before (statements_in one.steps) read (journal_sound streams.base.state streams.journal all.sound all.bytes) is.is_open.alone.plain)

pub both_marks : (all : Open) (first second marks : List Bool) (puts stood : List coded.Touched)
    → ((slot : ℕ) → slot < max_open → is_marked first slot ≡ is_overlapped puts (noted_reads all.tracks slot))
    → ((slot : ℕ) → slot < max_open → is_marked second slot ≡ is_overlapped stood (noted_reads all.tracks slot))
    → ((slot : ℕ) → slot < max_open → is_marked marks slot ≡ (is_marked first slot || is_marked second slot)) → AreMarks all marks (puts ++ stood)
both_marks all first second marks puts stood one other both = λ slot within.
    both slot within ∙ (λ i. one slot within i || other slot within i) ∙ sym (overlapped_both puts stood (noted_reads all.tracks slot))

-- ---- a state is kept

more_stays : (old new : Open) → KeepsMore old new → (slot : ℕ) → StaysAt old new slot
more_stays old new more slot = record {
  state = ap (λ slots. get slots slot) more.slots;
  work = ap (λ (works : List Work). slice_get works slot) more.works;
  reads = ap (λ tracks. noted_reads tracks slot) more.tracks;
  kept = λ place is some. by_kept place (kept_at place old.kept) refl some;
}
  where
    by_kept : (place : ℕ) (found : Option coded_state.State) → kept_at place old.kept ≡ found → IsSome found → IsSome (kept_at place new.kept)
    by_kept place None is some = absurd cc
    by_kept place (Some memory) is some = subst IsSome (sym (more.more place memory is)) some

all_more_stay : (old new : Open) → KeepsMore old new → (names : List Named) → AllByRecursion (λ (named : Named). StaysAt old new named.slot) names
all_more_stay old new more [] = tt
all_more_stay old new more (named ∷ names) = (more_stays old new more named.slot, all_more_stay old new more names)

same_memory : (one other : coded_state.State) → Some one ≡ Some other → one ≡ other
same_memory one other e = cc

-- the state before a commit is kept
pub prepared : (streams : Streams) (state : coded_state.State) (commits : ℕ) (old new : Open) → Holds state (newest_state streams) → commits ≡ length streams.journal → KeepsMore old new
    → ((memory : coded_state.State) → kept_at commits old.kept ≡ None → kept_at commits new.kept ≡ Some memory → Holds memory (newest_state streams))
    → ((number : ℕ) → number ≢ commits → kept_at number new.kept ≡ kept_at number old.kept) → HoldsOpen streams old → HoldsOpen streams new
prepared streams state commits old new holds_state count more fresh others holds = record {
  each = subst (λ names. AllZip (IsOpen streams new) names streams.transactions) (sym more.names)
      (all_stay streams old new old.names streams.transactions (all_more_stay old new more old.names) holds.each);
  kept = λ number memory is. by_number number memory is (number == commits) refl;
}
  where
    State_at : ℕ → coded_state.State → Type 0
    State_at number memory = (number ≤ length streams.journal) × Holds memory (state_after_first streams.base.state streams.journal number)

    at_commits : (memory : coded_state.State) → kept_at commits new.kept ≡ Some memory → (was : Option coded_state.State) → kept_at commits old.kept ≡ was → State_at commits memory
    at_commits memory is None was = (
      omega (arith, count),
      subst (Holds memory) (sym (ap (state_after_first streams.base.state streams.journal) count ∙ whole_state streams.base.state streams.journal)) (fresh memory was is),
    )
    at_commits memory is (Some before) was =
        let same = same_memory before memory (sym (more.more commits before was) ∙ is) in
        holds.kept commits memory (was ∙ ap (λ (m : coded_state.State). Some m) same)

    by_number : (number : ℕ) (memory : coded_state.State) → kept_at number new.kept ≡ Some memory → (same : Bool) → (number == commits) ≡ same → State_at number memory
    by_number number memory is true e =
        let same = eqb-true number commits e in
        subst (λ n. State_at n memory) (sym same) (at_commits memory (subst (λ n. kept_at n new.kept ≡ Some memory) same is) (kept_at commits old.kept) refl)
    by_number number memory is false e = holds.kept number memory (sym (others number (λ same. true≢false (sym (eq-eqb number commits same) ∙ e))) ∙ is)

-- an active transaction stays one
pub active_kept : (old new : Engine) (streams : Streams) (name : TxnName) (slot : ℕ) (one : Transaction) → HasStreams new streams → KeepsMore old.open new.open
    → IsActiveIn old streams name slot one → IsActiveIn new streams name slot one
active_kept old new streams name slot one has more is = record {
  is_open = record {
    has = has;
    named = is.is_open.named;
    slot = ap (slot_named name) more.names ∙ is.is_open.slot;
    kept = is.is_open.kept;
    is = record {
      state = is.is_open.is.state ∙ ap (λ slots. get slots slot) (sym more.slots);
      work = ap (λ (works : List Work). slice_get works slot) more.works ∙ is.is_open.is.work;
      reads = is.is_open.is.reads ∙ ap (λ tracks. noted_reads tracks slot) (sym more.tracks);
    };
    keeps = subst (λ how. HasStanding streams new.open.kept one how is.is_open.kept) (sym is.active)
        (subst (λ how. HasStanding streams old.open.kept one how is.is_open.kept) is.active is.is_open.keeps);
    apart = subst HaveOwnSlots (sym more.names) is.is_open.apart;
    alone = is.is_open.alone;
  };
  active = is.active;
  run = is.run;
  state = is.state;
}

-- ---- the transaction that commits has ended

-- the marks without that of a slot
abbrev unmarked : List Bool → (slot : ℕ) → List Bool
unmarked marks slot = slice_set marks slot false

unmarked_there : (marks : List Bool) (slot : ℕ) → is_marked (unmarked marks slot) slot ≡ false
unmarked_there [] slot = refl
unmarked_there (mark ∷ marks) zero = refl
unmarked_there (mark ∷ marks) (suc slot) = unmarked_there marks slot

marked_else : (marks : List Bool) (slot other : ℕ) → other ≢ slot → is_marked (unmarked marks slot) other ≡ is_marked marks other
marked_else [] slot other differs = refl
marked_else (mark ∷ marks) zero zero differs = absurd (differs refl)
marked_else (mark ∷ marks) zero (suc other) differs = refl
marked_else (mark ∷ marks) (suc slot) zero differs = refl
marked_else (mark ∷ marks) (suc slot) (suc other) differs = marked_else marks slot other (λ same. differs (ap suc same))

module _ (ready third : Open) (slot : ℕ) (marks : List Bool) (gone : get third.slots slot ≡ None) (stays : (other : ℕ) → other ≢ slot → StaysAt ready third other) where
  differs_by : (other : ℕ) → (other == slot) ≡ false → other ≢ slot
  differs_by other e = λ same. true≢false (sym (eq-eqb other slot same) ∙ e)

  ended_marks : (keys : List coded.Touched) → noted_reads third.tracks slot ≡ [] → AreMarks ready marks keys → AreMarks third (unmarked marks slot) keys
  ended_marks keys forgotten are = λ other within. by_slot other within (other == slot) refl
    where
      by_slot : (other : ℕ) → other < max_open → (same : Bool) → (other == slot) ≡ same → is_marked (unmarked marks slot) other ≡ is_overlapped keys (noted_reads third.tracks other)
      by_slot other within true e =
          subst (λ n. is_marked (unmarked marks slot) n ≡ is_overlapped keys (noted_reads third.tracks n)) (sym (eqb-true other slot e))
          (unmarked_there marks slot ∙ ap (is_overlapped keys) (sym forgotten))
      by_slot other within false e =
          marked_else marks slot other (differs_by other e) ∙ are other within ∙ ap (is_overlapped keys) (sym (stays other (differs_by other e)).reads)

  ended_ready : (commits : ℕ) → third.kept ≡ ready.kept → ViewsAreKept ready marks commits (Some slot) → ViewsAreKept third (unmarked marks slot) commits None
  ended_ready commits kept is = λ other since differs state mark work there unwritten. by_slot other since state mark work there unwritten (other == slot) refl
    where
      same_number : (a b : ℕ) → Some a ≡ Some b → a ≡ b
      same_number a b e = cc

      by_slot : (other since : ℕ) → get third.slots other ≡ Some (txn.Active since) → is_marked (unmarked marks slot) other ≡ true → (work : Work) → slice_get third.works other ≡ Some work
          → has_rows work ≡ false → (same : Bool) → (other == slot) ≡ same → IsSome (kept_at commits third.kept)
      by_slot other since state mark work there unwritten true e =
          let none : get third.slots other ≡ None = ap (get third.slots) (eqb-true other slot e) ∙ gone in absurd cc
      by_slot other since state mark work there unwritten false e =
          let differs = differs_by other e in
          let stay = stays other differs in
          subst (λ k. IsSome (kept_at commits k)) (sym kept)
          (is other since (λ same. differs (same_number other slot same)) (sym stay.state ∙ state) (sym (marked_else marks slot other differs) ∙ mark) work (sym stay.work ∙ there) unwritten)

  ended_moves : (fourth : Open) (commits : ℕ) → Moves third fourth marks false commits → Moves third fourth (unmarked marks slot) false commits
  ended_moves fourth commits moves = record {
    names = moves.names;
    each = λ other within has is. let (now, is_now, moved) = moves.each other within has is in (now, is_now, by_slot other has now is moved (other == slot) refl);
    views = moves.views;
    kept = moves.kept;
  }
    where
      by_slot : (other : ℕ) (has now : SlotHas) → HasSlot third other has → MovesSlot false (is_marked marks other) commits has now → (same : Bool) → (other == slot) ≡ same
          → MovesSlot false (is_marked (unmarked marks slot) other) commits has now
      by_slot other has now is moved true e =
          let none : has.state ≡ None = is.state ∙ ap (get third.slots) (eqb-true other slot e) ∙ gone in
          record {
            state = ap (λ (h : SlotHas). h.state) (moved.vacant none) ∙ none
                ∙ sym (ap (option_map (moved_state false (is_marked (unmarked marks slot) other) (has_rows has.work) commits)) none);
            active = moved.active;
            vacant = moved.vacant;
          }
      by_slot other has now is moved false e =
          subst (λ mark. MovesSlot false mark commits has now) (sym (marked_else marks slot other (differs_by other e))) moved

-- the open transactions after a commit of one of them
pub ended_moved : (streams : Streams) (commit : Tx) → AllStandAlone streams → HaveBytes commit.rows → is_schema_commit commit ≡ false → (name : TxnName) (slot : ℕ) (ready third fourth : Open)
    (marks : List Bool) (keys : List coded.Touched) → SpellsRows (newest_state streams) commit.rows keys → AreMarks ready marks keys → ViewsAreKept ready marks (length streams.journal) (Some slot)
    → HoldsOpen (beside streams (without_named name streams.transactions)) third → get third.slots slot ≡ None → noted_reads third.tracks slot ≡ []
    → ((other : ℕ) → other ≢ slot → StaysAt ready third other) → third.kept ≡ ready.kept → Moves third fourth marks false (length streams.journal)
    → length third.works ≡ max_open → HoldsOpen (committed (beside streams (without_named name streams.transactions)) commit) fourth
ended_moved streams commit all bytes plain name slot ready third fourth marks keys spells are is_ready holds gone forgotten stays kept moves whole =
    all_moved (beside streams (without_named name streams.transactions)) commit
    (record { sound = all.sound; bytes = all.bytes; each = each_kept (StandsAlone streams.base.ids streams.base.state streams.journal) (λ (one : Transaction). not (is_name one.name name)) streams.transactions all.each })
    bytes third fourth (unmarked marks slot) keys false (sym plain) spells (ended_marks ready third slot marks gone stays keys forgotten are)
    (ended_moves ready third slot marks gone stays fourth (length streams.journal) moves) whole (ended_ready ready third slot marks gone stays (length streams.journal) kept is_ready) holds

-- ---- the rows of a run

-- the row of a write is in its space
pub row_space : (space : ℕ) (write : Write) (key : List ℕ) → (row_with space write key).space.0 ≡ space
row_space space (Insert tuple) key = refl
row_space space (Replace tuple) key = refl
row_space space (Update index base asked operations) key = refl
row_space space (Delete index asked) key = refl
row_space space (Upsert base tuple operations) key = refl

write_row_plain : (before : State) (space : ℕ) (write : Write) (row : Row) → describes_schema space ≡ false → (answer_in_space before space (Writes write)).row ≡ Some row
    → is_schema_row row ≡ false
write_row_plain before space write row plain = by_outcome (judged_write Client before space write).outcome refl
  where
    by_outcome : (outcome : Result Made Refusal) → (judged_write Client before space write).outcome ≡ outcome
        → (answer_of_outcome (judged_write Client before space write).reads outcome).row ≡ Some row → is_schema_row row ≡ false
    by_outcome (Err refusal) is e = absurd cc
    by_outcome (Ok made) is e =
        let so = wrote_row Client before space made write row is e in
        let whole = (makes space write so.key so.tuple so.shown made so.made).1 in
        let rows : Some (row_with space write (key_array so.key)) ≡ Some row = ap (λ (m : Made). m.row) (sym whole) ∙ e in
        let same : row_with space write (key_array so.key) ≡ row = cc in
        ap (λ (r : Row). describes_schema r.space.0) (sym same) ∙ ap describes_schema (row_space space write (key_array so.key)) ∙ plain

-- no row that an answer leaves describes a space or an index
operation_row_plain : (before : State) (space : ℕ) (operation : Operation) → IsNoSchemaWrite space operation → list_any is_schema_row (option_to_list (answer_in_space before space operation).row) ≡ false
operation_row_plain before space (Selects index limit offset iterator key) plain =
    ap (λ (row : Option Row). list_any is_schema_row (option_to_list row)) (select_no_row before space index limit offset (iterator_of iterator) key)
operation_row_plain before space (Writes write) plain = by_row (answer_in_space before space (Writes write)).row refl
  where
    by_row : (row : Option Row) → (answer_in_space before space (Writes write)).row ≡ row → list_any is_schema_row (option_to_list row) ≡ false
    by_row None is = refl
    by_row (Some row) is = ap (λ b. b || false) (write_row_plain before space write row plain is)

statement_row_plain : (ids : Ids) (before : State) (statement : Statement) → IsDataStatement statement → list_any is_schema_row (option_to_list (statement_answer ids before statement).row) ≡ false
statement_row_plain ids before statement plain = by_test (writes statement.operation && not (ids.me == writable_node))
  where
    by_test : (refuses : Bool)
        → list_any is_schema_row (option_to_list (if refuses then refusal_alone (ReadOnly (record { 0 = writable_node })) else answer_in_space before statement.space statement.operation).row) ≡ false
    by_test true = refl
    by_test false = operation_row_plain before statement.space statement.operation plain.0

limited_row_plain : (rows : List Row) (answer : Answer) (row : Option Row) → list_any is_schema_row (option_to_list answer.row) ≡ false
    → list_any is_schema_row (option_to_list (within_limits rows answer row).row) ≡ false
limited_row_plain rows answer None plain = plain
limited_row_plain rows answer (Some row) plain = by_test (has_room rows row)
  where
    by_test : (room : Bool) → list_any is_schema_row (option_to_list (if room then answer else refusal_after answer.reads TransactionTooLong).row) ≡ false
    by_test true = plain
    by_test false = refl

pub rows_plain : (ids : Ids) (before : State) (statements : List Statement) → AllByRecursion IsDataStatement statements → list_any is_schema_row (run_alone ids before statements).rows ≡ false
unfolding run_alone
rows_plain ids before [] plain = refl
rows_plain ids before (statement ∷ earlier) plain =
    let run = run_alone ids before earlier in
    let stated = statement_answer ids run.state statement in
    let last = limited_row_plain run.rows stated stated.row (statement_row_plain ids run.state statement plain.0) in
    list_any-append is_schema_row run.rows (option_to_list (answer_in_run ids run statement).row)
    ∙ (λ i. rows_plain ids before earlier plain.1 i || last i)

-- ---- all of a COMMIT

-- the vclock after it
pub clock_more : (clock : List ℕ) (streams : Streams) (row : Row) (rows : List Row) (last : ℕ) (commit : Tx) → clock ≡ clock_after streams.base.clock streams.journal
    → last ≡ slice_index clock writable_node + length (row ∷ rows) → commit.replica.0 ≡ writable_node → commit.first.0 ≡ slice_index clock writable_node + 1 → commit.rows ≡ row ∷ rows
    → slice_set clock writable_node last ≡ clock_after streams.base.clock (streams.journal ++ commit ∷ [])
clock_more clock streams row rows last commit is last_is replica first commit_rows =
    ap (slice_set clock writable_node) (last_is ∙ last_of_all ∙ ap (λ n. (n + length (row ∷ rows)) - 1) (sym first) ∙ ap (λ (l : List Row). (commit.first.0 + length l) - 1) (sym commit_rows))
    ∙ ap (λ n. slice_set clock n ((commit.first.0 + length commit.rows) - 1)) (sym replica)
    ∙ ap (λ (c : List ℕ). clock_after_one c commit) is
    ∙ sym (clock_after-append streams.base.clock streams.journal (commit ∷ []))
  where
    last_of_all : slice_index clock writable_node + length (row ∷ rows) ≡ ((slice_index clock writable_node + 1) + length (row ∷ rows)) - 1
    last_of_all = omega arith

-- what memory has that was installed is the run's state
pub run_held : (streams : Streams) (one : Transaction) (memory : coded_state.State) (all : List PlainChange) → AllStandAlone streams → StandsAlone streams.base.ids streams.base.state streams.journal one
    → state_with_all (newest_state streams) all ≡ (newest_run streams one).state → HoldsBy (schema_of (newest_state streams)) memory (state_with_all (newest_state streams) all)
    → Holds memory (newest_run streams one).state
run_held streams one memory all stand alone makes holds =
    let before = newest_state streams in
    let ids = streams.base.ids in
    let statements = statements_in one.steps in
    let sound = journal_sound streams.base.state streams.journal stand.sound stand.bytes in
    let own = run_is_own ids before statements alone.plain in
    let schemas : schema_of before ≡ schema_of (newest_run streams one).state = λ i q. sym (own.1 q) i in
    let here = subst (HoldsBy (schema_of before) memory) makes holds in record {
      spaces = subst (λ described. HoldsBy described memory (newest_run streams one).state) schemas here;
      sound = subst IsSound (run_makes ids before statements sound alone.plain)
          (rows_sound before (newest_run streams one).rows sound
          (run_bytes ids before statements (each_follows IsDataStatement (λ (statement : Statement). OperationHasBytes statement.operation) (λ statement is. is.1) statements alone.plain)));
    }

-- the commit of rows
abbrev pub commit_of : Streams → List Row → Tx
commit_of streams rows = record { replica = record { 0 = streams.base.ids.me }; first = record { 0 = slice_index (clock_after streams.base.clock streams.journal) streams.base.ids.me + 1 }; rows = rows }

-- as the engine makes it
pub as_made : (engine : Engine) (streams : Streams) (rows others : List Row) (first : ℕ) → HasStreams engine streams → streams.base.ids.me ≡ writable_node
    → first ≡ slice_index engine.clock writable_node + 1 → others ≡ rows
    → record { replica = record { 0 = writable_node }; first = record { 0 = first }; rows = others } ≡ commit_of streams rows
as_made engine streams rows others first has me is same =
    let number : first ≡ slice_index (clock_after streams.base.clock streams.journal) streams.base.ids.me + 1 = is ∙ sym (lsn_is engine streams 1 has me) in
    λ i. record { replica = record { 0 = sym me i }; first = record { 0 = number i }; rows = same i }

-- all that a COMMIT changes
pub record CommitsWork (old new : Engine) (streams : Streams) (name : TxnName) (one : Transaction) (rows last : ℕ) : Type 0 where
  pub holds : Holds new.state (newest_run streams one).state
  pub clock : new.clock ≡ slice_set old.clock writable_node last
  pub ids : new.ids ≡ old.ids
  pub commits : new.commits ≡ suc old.commits
  pub count : new.count ≡ old.count
  pub schema : new.schema ≡ old.schema
  pub written : List Row
  pub pending : new.pending ≡ old.pending ++ record { replica = record { 0 = writable_node }; first = record { 0 = (last + 1) - rows }; rows = written } ∷ []
  pub wrote : written ≡ (newest_run streams one).rows
  pub transactions : HoldsOpen (committed (beside streams (without_named name streams.transactions)) (commit_of streams (newest_run streams one).rows)) new.open

pub commit_told : (old new : Engine) (streams : Streams) (name : TxnName) (slot : ℕ) (one : Transaction) (row : Row) (others : List Row) (rows last : ℕ) → AllStandAlone streams
    → IsActiveIn old streams name slot one → old.commits < old.count → (newest_run streams one).rows ≡ row ∷ others → streams.base.ids.me ≡ writable_node → rows ≡ length (row ∷ others)
    → last ≡ slice_index old.clock writable_node + rows → CommitsWork old new streams name one rows last
    → TellsOutcome old new streams name (record { reply = Empty; rows = row ∷ others; becomes = Ends }) Empty
commit_told old new streams name slot one row others rows last all is few rows_are me count last_is made = record {
  told = refl;
  after = record {
    holds = subst (Holds new.state) (sym after_commit) made.holds;
    clock = made.clock ∙ clock_more old.clock streams row others last commit has.clock (last_is ∙ ap (λ n. slice_index old.clock writable_node + n) count) me (lsn_is old streams 1 has me) refl;
    ids = made.ids ∙ has.ids;
    commits = made.commits ∙ ap suc has.commits ∙ sym longer;
    few = omega (arith, made.commits, made.count, few);
    transactions = subst (λ (l : List Row). HoldsOpen (committed (beside streams (without_named name streams.transactions)) (commit_of streams l)) new.open) rows_are made.transactions;
  };
  pending = made.pending ∙ ap (λ (t : Tx). old.pending ++ t ∷ []) (as_made old streams (row ∷ others) made.written ((last + 1) - rows) has me first_is (made.wrote ∙ rows_are));
  schema = made.schema ∙ sym (ap (λ b. if b then (old.schema + 1) % 2 ^ 32 else old.schema) plain);
}
  where
    has : HasStreams old streams
    has = is.is_open.has

    commit : Tx
    commit = commit_of streams (row ∷ others)

    after_commit : state_after streams.base.state (streams.journal ++ commit ∷ []) ≡ (newest_run streams one).state
    after_commit = ap (λ (l : List Row). state_after streams.base.state (streams.journal ++ commit_with streams l)) (sym rows_are) ∙ commit_makes streams one all is.is_open.alone

    longer : length (streams.journal ++ commit ∷ []) ≡ suc (length streams.journal)
    longer = length-append streams.journal (commit ∷ []) ∙ plus_one (length streams.journal)
      where
        plus_one : (n : ℕ) → n + 1 ≡ suc n
        plus_one n = omega arith

    first_is : (last + 1) - rows ≡ slice_index old.clock writable_node + 1
    first_is = omega (arith, last_is)

    plain : is_schema_commit commit ≡ false
    plain = ap (list_any is_schema_row) (sym rows_are) ∙ rows_plain streams.base.ids (newest_state streams) (statements_in one.steps) is.is_open.alone.plain

-- the open transactions after a COMMIT
pub work_moved : (streams : Streams) (name : TxnName) (slot : ℕ) (one : Transaction) (start ready reserved third fourth : Open) (marks : List Bool) (keys : List coded.Touched) (commits now : ℕ)
    → AllStandAlone streams → StandsAlone streams.base.ids streams.base.state streams.journal one → commits ≡ length streams.journal → now ≡ commits
    → SpellsRows (newest_state streams) (newest_run streams one).rows keys → AreMarks start marks keys → KeepsMore start ready → ViewsAreKept ready marks commits (Some slot) → HoldsOpen streams ready
    → reserved ≡ ready → (HoldsOpen streams reserved → HoldsOpen (beside streams (without_named name streams.transactions)) third) → get third.slots slot ≡ None → noted_reads third.tracks slot ≡ []
    → ((other : ℕ) → other ≢ slot → StaysAt reserved third other) → third.kept ≡ reserved.kept → Moves third fourth marks false now
    → length third.works ≡ max_open
    → HoldsOpen (committed (beside streams (without_named name streams.transactions)) (commit_of streams (newest_run streams one).rows)) fourth
work_moved streams name slot one start ready reserved third fourth marks keys commits now stand alone count now_is spells are more is_ready holds same ended gone forgotten stays kept moves whole =
    let statements = statements_in one.steps in
    ended_moved streams (commit_of streams (newest_run streams one).rows) stand
    (run_bytes streams.base.ids (newest_state streams) statements
    (each_follows IsDataStatement (λ (statement : Statement). OperationHasBytes statement.operation) (λ statement is. is.1) statements alone.plain))
    (rows_plain streams.base.ids (newest_state streams) statements alone.plain) name slot reserved third fourth marks keys spells
    (λ other lies. are other lies ∙ ap (λ tracks. is_overlapped keys (noted_reads tracks other)) (sym more.tracks ∙ ap (λ (o : Open). o.tracks) (sym same)))
    (subst (λ (o : Open). ViewsAreKept o marks (length streams.journal) (Some slot)) (sym same) (subst (λ n. ViewsAreKept ready marks n (Some slot)) count is_ready))
    (ended (subst (HoldsOpen streams) (sym same) holds)) gone forgotten stays kept (subst (Moves third fourth marks false) (now_is ∙ count) moves) whole
