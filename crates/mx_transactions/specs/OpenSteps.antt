-- What the calls on open transactions find and make of them.
use Rattle.std.specs.Prelude.{◌≡◌, ◌≢◌, ◌⊎◌, ℕ, Bool, true, false, not, ◌&&◌, ◌||◌, ◌<◌, ◌==◌, List, [], ◌∷◌, length, take, Option, Some, None, Result, Ok, Err, IsSome, MatchOption, slice_get, if◌then◌else◌}
use Rattle.std.specs.FinMap.{get}
use Rattle.std.specs.List.{list_any}
use Rattle.std.specs.Option.{option_map}
use Rattle.mx_space.specs.declared.kept_states.KeptStates.{KeptStates}
use Rattle.mx_space.specs.declared.state.State as memory
use Rattle.mx_space.specs.KeptStates.{kept_at, needed_from}
use Rattle.mx_tracker.specs.declared.read.Read as noted
use Rattle.mx_tracker.specs.declared.touched.Touched as coded
use Rattle.mx_tracker.specs.Marks.{is_marked}
use Rattle.mx_tracker.specs.Overlaps.{is_overlapped, lies_in_read}
use Rattle.mx_tracker.specs.Tracks.{noted_reads}
use Rattle.mx_txn.specs.Slots.{IsOldestView, Txns, max_open}
use Rattle.mx_model.specs.Overlaps.{Transaction, is_some_row}
use Rattle.mx_base.specs.declared.ids.TxnName.{TxnName}
use Rattle.mx_base.specs.declared.refusal.Refusal.{Refusal}
use Rattle.mx_txn.specs.declared.state.TxnState.{TxnState}
use Rattle.mx_txn.specs.declared.state.TxnState.TheVariants as txn
use Rattle.mx_model.specs.Streams.{Outcome, Streams, streams_after, transaction_named}
use Rattle.mx_model.specs.declared.reply.Reply.{Reply}
use Rattle.mx_model.specs.declared.reply.Reply.TheVariants.{Empty, Refused}
use Rattle.mx_schema.specs.Sound.{IsSound}
use Rattle.mx_schema.specs.State.{State}
use Rattle.mx_entries.specs.OwnStates.{AreNoDescriptions, state_with_own}
use Rattle.mx_row.specs.declared.row.Row.{Row}
use Rattle.mx_write.specs.Notes.{SpellsRead}
use Rattle.mx_write.specs.Reads.{Read}
use Rattle.mx_model.specs.Answers.{state_after_rows}
use Rattle.mx_model.specs.Touches.{rows_meet}
use Rattle.mx_model.specs.RunAlone.{Run}
use Rattle.mx_model.specs.RunTouches.{changes_of}
use Rattle.mx_transactions.specs.declared.work.Work.{Work}
use Rattle.mx_transactions.specs.Open.{HasRun, HasSlot, HasTransaction, HoldsOpen, Open, SlotHas}

-- the same with other open transactions
abbrev pub beside : Streams → List Transaction → Streams
beside streams transactions = record streams { transactions = transactions }

-- a reply without tuples
abbrev pub empty_reply : {X : Type 0} → Result X Refusal → Reply
empty_reply (Ok done) = Empty
empty_reply (Err refusal) = Refused refusal

-- the reply is this outcome's, and what comes of it is kept
pub record TellsOpen (streams : Streams) (all : Open) (name : TxnName) (outcome : Outcome) (result : Result (Unit {0}) Refusal) : Type 0 where
  pub told : empty_reply result ≡ outcome.reply
  pub after : HoldsOpen (streams_after streams name outcome) all

-- a slot has the transaction that is open under a name, in this state
pub record FindsIn (streams : Streams) (all : Open) (name : TxnName) (slot : ℕ) (found : TxnState) : Type 0 where
  pub transaction : Transaction
  pub named : transaction_named name streams.transactions ≡ Some transaction
  pub has : SlotHas
  pub is : HasSlot all slot has
  pub keeps : HasTransaction streams all.kept transaction has
  pub state : has.state ≡ Some found

abbrev pub FindsOpen : Streams → Open → TxnName → Option (ℕ × TxnState) → Type 0
FindsOpen streams all name found =
    MatchOption found (transaction_named name streams.transactions ≡ None) (λ one. FindsIn streams all name one.0 one.1)

-- ---- one slot

-- another slot has what it had, and its view, where it has one, is kept
pub record StaysAt (old new : Open) (slot : ℕ) : Type 0 where
  pub state : get new.slots slot ≡ get old.slots slot
  pub work : slice_get new.works slot ≡ slice_get old.works slot
  pub reads : noted_reads new.tracks slot ≡ noted_reads old.tracks slot
  pub kept : (place : ℕ) → get new.slots slot ≡ Some (txn.View place) → IsSome (kept_at place old.kept) → IsSome (kept_at place new.kept)

-- no state is kept that wasn't before
abbrev pub KeepsNoOthers : (old new : KeptStates) → Type 0
KeepsNoOthers old new = (commits : ℕ) (one : memory.State) → kept_at commits new ≡ Some one → kept_at commits old ≡ Some one

-- only one slot changes, and no state is kept that wasn't before
pub record ChangesSlot (old new : Open) (slot : ℕ) : Type 0 where
  pub names : new.names ≡ old.names
  pub others : (other : ℕ) → other ≢ slot → StaysAt old new other
  pub kept : KeepsNoOthers old.kept new.kept

-- and it has this now
pub record ChangesTo (old new : Open) (slot : ℕ) (now : SlotHas) : Type 0 where
  pub changes : ChangesSlot old new slot
  pub has : HasSlot new slot now

-- a slot's transaction has come to a run on this state, and stands as it did
abbrev pub ComesTo : (old new : Open) → (slot : ℕ) → SlotHas → State → Run → Type 0
ComesTo old new slot has before run =
    (now : SlotHas) × (now.state ≡ has.state) × HasRun before run now.work now.reads × ChangesTo old new slot now

-- no state is kept from before the oldest one that a view reads, and none where there is no view
pub record IsTrimmed (all : Open) : Type 0 where
  pub oldest : Option ℕ
  pub is : IsOldestView all.slots oldest
  pub none : (commits : ℕ) → kept_at commits all.kept ≡ needed_from oldest commits (kept_at commits all.kept)

-- of the states that are kept only such were dropped as no view reads
abbrev pub DropsUnread : Txns → (old new : KeptStates) → Type 0
DropsUnread slots old new =
    (commits : ℕ) → (kept_at commits new ≡ kept_at commits old) ⊎ ((kept_at commits new ≡ None) × ((slot : ℕ) → get slots slot ≢ Some (txn.View commits)))

-- the state that a slot's transaction read isn't kept where no view reads it now
abbrev pub KeepsNoUnread : (old new : Open) → (slot : ℕ) → Type 0
KeepsNoUnread old new slot =
    (at : ℕ) → get old.slots slot ≡ Some (txn.View at) → ((other : ℕ) → get new.slots other ≢ Some (txn.View at)) → kept_at at new.kept ≡ None

-- ---- commits

abbrev pub has_rows : Work → Bool
has_rows work = is_some_row work.rows

-- what a commit makes of a transaction's state, after so many commits
abbrev pub moved_state : (is_schema is_marked has_rows : Bool) → (commits : ℕ) → TxnState → TxnState
moved_state is_schema is_marked has_rows commits (txn.Active since) =
    if is_marked then (if has_rows || is_schema then txn.Aborted commits else txn.View commits) else txn.Active since
moved_state is_schema is_marked has_rows commits (txn.View at) = if is_schema then txn.Aborted at else txn.View at
moved_state is_schema is_marked has_rows commits (txn.Aborted by) = txn.Aborted by

-- what it makes of a slot: one that is still active has what it had
pub record MovesSlot (is_schema is_marked : Bool) (commits : ℕ) (has now : SlotHas) : Type 0 where
  pub state : now.state ≡ option_map (moved_state is_schema is_marked (has_rows has.work) commits) has.state
  pub active : (since : ℕ) → now.state ≡ Some (txn.Active since) → (now.work ≡ has.work) × (now.reads ≡ has.reads)
  pub vacant : has.state ≡ None → now ≡ has

-- what it makes of all slots, by their marks
pub record Moves (old new : Open) (marks : List Bool) (is_schema : Bool) (commits : ℕ) : Type 0 where
  pub names : new.names ≡ old.names
  pub each : (slot : ℕ) → slot < max_open → (has : SlotHas) → HasSlot old slot has
      → (now : SlotHas) × HasSlot new slot now × MovesSlot is_schema (is_marked marks slot) commits has now
  pub views : (slot place : ℕ) → get new.slots slot ≡ Some (txn.View place) → IsSome (kept_at place old.kept) → IsSome (kept_at place new.kept)
  pub kept : KeepsNoOthers old.kept new.kept

-- these keys stand for what rows touch: one of them lies in a read exactly where the rows meet it
abbrev pub SpellsRows : State → List Row → List coded.Touched → Type 0
SpellsRows before rows keys =
    (read : Read) (reading : noted.Read) → SpellsRead reading read → list_any (lies_in_read reading) keys ≡ rows_meet before rows (read ∷ [])

-- each mark says whether the keys lie in what was read in its slot
abbrev pub AreMarks : Open → (marks : List Bool) → List coded.Touched → Type 0
AreMarks all marks keys = (slot : ℕ) → slot < max_open → is_marked marks slot ≡ is_overlapped keys (noted_reads all.tracks slot)

-- states were at most added to those that are kept
pub record KeepsMore (old new : Open) : Type 0 where
  pub names : new.names ≡ old.names
  pub slots : new.slots ≡ old.slots
  pub tracks : new.tracks ≡ old.tracks
  pub works : new.works ≡ old.works
  pub more : (number : ℕ) (memory : memory.State) → kept_at number old.kept ≡ Some memory → kept_at number new.kept ≡ Some memory

-- a transaction is active and has written nothing
abbrev pub is_reader_with : Option TxnState → Option Work → Bool
is_reader_with (Some (txn.Active since)) (Some work) = not (has_rows work)
is_reader_with state work = false

abbrev pub is_reader : Open → (slot : ℕ) → Bool
is_reader all slot = is_reader_with (get all.slots slot) (slice_get all.works slot)

-- a slot is another one than that of a commit
abbrev pub is_beside : (committing : Option ℕ) → (slot : ℕ) → Bool
is_beside None slot = true
is_beside (Some committing) slot = not (slot == committing)

-- a commit by these marks gives a slot's transaction a view of the state before it; but not the transaction that commits
abbrev pub gets_view : Open → (marks : List Bool) → (committing : Option ℕ) → (slot : ℕ) → Bool
gets_view all marks committing slot = is_beside committing slot && is_marked marks slot && is_reader all slot

-- where a commit by these marks gives a transaction a view of the state before it, that state is kept; but for the transaction that commits
abbrev pub ViewsAreKept : Open → (marks : List Bool) → (commits : ℕ) → (committing : Option ℕ) → Type 0
ViewsAreKept all marks commits committing =
    (slot since : ℕ) → Some slot ≢ committing → get all.slots slot ≡ Some (txn.Active since) → is_marked marks slot ≡ true
    → (work : Work) → slice_get all.works slot ≡ Some work → has_rows work ≡ false → IsSome (kept_at commits all.kept)

-- ---- runs

-- A run on a sound state: what it has come to is what its changes make of that state, and so are its rows.
pub record StandsOn (before : State) (run : Run) : Type 0 where
  pub sound : IsSound run.state
  pub own : run.state ≡ state_with_own before (changes_of run.answers)
  pub plain : AreNoDescriptions (changes_of run.answers)
  pub rows : state_after_rows before run.rows ≡ run.state

-- rows and keys were at most added
pub record BeginsAs (old new : Work) : Type 0 where
  pub rows : take (length old.rows) new.rows ≡ old.rows
  pub puts : take (length old.puts) new.puts ≡ old.puts
  pub changed : take (length old.changed.items) new.changed.items ≡ old.changed.items
  pub size : new.size ≡ old.size
