-- Open transactions as the engine keeps them: each in a slot, by how it stands.
use Rattle.std.specs.Prelude.{◌≡◌, ◌≢◌, ℕ, ⊤, false, ◌<◌, ◌≤◌, List, [], ◌∷◌, ◌++◌, length, Option, Some, None, IsSome, slice_get, if◌then◌else◌}
use Rattle.std.specs.FinMap.{get, len}
use Rattle.std.specs.List.{AllByRecursion, AllZip}
use Rattle.mx_base.specs.declared.ids.TxnName.{TxnName}
use Rattle.mx_key.specs.Comparable.{comparable_of}
use Rattle.mx_key.specs.Keys.{AreFit}
use Rattle.mx_row.specs.Limits.{rows_size, saturated}
use Rattle.mx_schema.specs.declared.schema.Schema.{Schema}
use Rattle.mx_schema.specs.Catalogues.{schema_of}
use Rattle.mx_schema.specs.State.{State}
use Rattle.mx_space.specs.declared.kept_states.KeptStates.{KeptStates}
use Rattle.mx_space.specs.declared.state.State as memory
use Rattle.mx_space.specs.KeptStates.{kept_at}
use Rattle.mx_space.specs.OwnChanges.{HoldsOwn}
use Rattle.mx_space.specs.Stored.{Holds}
use Rattle.mx_tracker.specs.declared.read.Read as noted
use Rattle.mx_tracker.specs.Tracks.{Tracks, noted_reads}
use Rattle.mx_txn.specs.declared.state.TxnState.{TxnState}
use Rattle.mx_txn.specs.declared.state.TxnState.TheVariants as txn
use Rattle.mx_txn.specs.Slots.{IsLive, Txns, max_open}
use Rattle.mx_write.specs.Change.{Change}
use Rattle.mx_write.specs.Notes.{SpellsRead}
use Rattle.mx_write.specs.Reads.{Read}
use Rattle.mx_write.specs.Touches.{SpellsTouched}
use Rattle.mx_model.specs.Overlaps.{Active, Doomed, Standing, Transaction, View, state_after_first, statements_in}
use Rattle.mx_model.specs.RunAlone.{Run, run_alone}
use Rattle.mx_model.specs.RunTouches.{changes_of, puts_of}
use Rattle.mx_model.specs.Streams.{Streams, is_name, standing_now}
use Rattle.mx_model.specs.Transactions.{state_after}
use Rattle.mx_model.specs.statements.Answer.{Answer}
use Rattle.mx_transactions.specs.declared.names.Named.{Named}
use Rattle.mx_transactions.specs.declared.work.ChangedKey.{ChangedKey}
use Rattle.mx_transactions.specs.declared.work.Work.{Work}

-- ---- names and slots

-- the slot of the first of a name
abbrev pub slot_named : TxnName → List Named → Option ℕ
slot_named name [] = None
slot_named name (one ∷ others) = if is_name one.name name then Some one.slot else slot_named name others

-- two transactions have neither one name nor one slot
pub record IsOther (one other : Named) : Type 0 where
  pub name : is_name other.name one.name ≡ false
  pub slot : other.slot ≢ one.slot

-- no two have one name or one slot
abbrev pub HaveOwnSlots : List Named → Type 0
HaveOwnSlots [] = ⊤
HaveOwnSlots (one ∷ others) = AllByRecursion (IsOther one) others × HaveOwnSlots others

-- the newest state of streams
abbrev pub newest_state : Streams → State
newest_state streams = state_after streams.base.state streams.journal

-- ---- what an active transaction has done

-- what answers have read, the oldest first; of the answers the newest stands first
abbrev pub reads_made : List Answer → List Read
reads_made [] = []
reads_made (answer ∷ earlier) = reads_made earlier ++ answer.reads

-- changes in the order in which they were made; given with the newest first
abbrev pub in_order : List Change → List Change
in_order [] = []
in_order (change ∷ earlier) = in_order earlier ++ change ∷ []

-- the key that a change names, as bytes
pub record SpellsKey (coded : ChangedKey) (change : Change) : Type 0 where
  pub space : coded.space.0 ≡ change.space
  pub key : coded.key ≡ comparable_of change.key
  pub fit : AreFit change.key

-- what a run on this state has written
pub record HasWritten (before : State) (run : Run) (work : Work) : Type 0 where
  pub overlay : HoldsOwn (schema_of before) work.overlay (changes_of run.answers)
  pub rows : work.rows ≡ run.rows
  pub size : work.size ≡ saturated (rows_size run.rows)
  pub puts : SpellsTouched before (puts_of (changes_of run.answers)) work.puts
  pub changed : AllZip SpellsKey work.changed.items (in_order (changes_of run.answers))

-- and what it has read
pub record HasRun (before : State) (run : Run) (work : Work) (readings : List noted.Read) : Type 0 where
  pub written : HasWritten before run work
  pub reads : AllZip SpellsRead readings (reads_made run.answers)

-- nothing is written
pub record WritesNothing (work : Work) : Type 0 where
  pub overlay : (schemas : ℕ → Option Schema) → HoldsOwn schemas work.overlay []
  pub rows : work.rows ≡ []
  pub size : work.size ≡ 0
  pub puts : work.puts ≡ []
  pub changed : work.changed.items ≡ []

-- ---- what is kept of a slot's transaction

-- what the engine has of a slot
pub record SlotHas : Type 0 where
  pub state : Option TxnState
  pub work : Work
  pub reads : List noted.Read

-- A slot has what its transaction needs, which stands so: while it is active, what its statements come to alone on the newest state; where it
-- has a view, the state before the commit that overlapped it; where it is doomed, nothing.
abbrev pub HasStanding : Streams → KeptStates → Transaction → Standing → SlotHas → Type 0
HasStanding streams kept transaction Active has =
    (has.state ≡ Some (txn.Active transaction.begun))
    × HasRun (newest_state streams) (run_alone streams.base.ids (newest_state streams) (statements_in transaction.steps)) has.work has.reads
HasStanding streams kept transaction (View place) has =
    (has.state ≡ Some (txn.View place)) × IsSome (kept_at place kept)
HasStanding streams kept transaction Doomed has = (by : ℕ) × (has.state ≡ Some (txn.Aborted by))

abbrev pub HasTransaction : Streams → KeptStates → Transaction → SlotHas → Type 0
HasTransaction streams kept transaction has = HasStanding streams kept transaction (standing_now streams false transaction) has

-- nothing is left in a slot without a transaction
pub record IsVacant (has : SlotHas) : Type 0 where
  pub idle : WritesNothing has.work
  pub reads : has.reads ≡ []

-- ---- all of them

-- what the engine keeps of open transactions: their names with their slots, the newest first; the state of each slot's transaction, what it has
-- read and what it has done; and the states that views read
pub record Open : Type 0 where
  pub names : List Named
  pub slots : Txns
  pub tracks : Tracks
  pub works : List Work
  pub kept : KeptStates

-- a slot has this
pub record HasSlot (all : Open) (slot : ℕ) (has : SlotHas) : Type 0 where
  pub state : has.state ≡ get all.slots slot
  pub work : slice_get all.works slot ≡ Some has.work
  pub reads : has.reads ≡ noted_reads all.tracks slot

-- each name has a slot of its own, in which its transaction has a state; and nothing is left in the other slots
pub record AreInSlots (all : Open) : Type 0 where
  pub live : AllByRecursion (λ (named : Named). IsLive all.slots named.slot) all.names
  pub apart : HaveOwnSlots all.names
  pub count : len all.slots ≡ length all.names
  pub whole : length all.works ≡ max_open
  pub vacant : (slot : ℕ) → slot < max_open → get all.slots slot ≡ None → (has : SlotHas) × HasSlot all slot has × IsVacant has

-- a name's slot has what its transaction needs
pub record IsOpen (streams : Streams) (all : Open) (named : Named) (transaction : Transaction) : Type 0 where
  pub name : named.name ≡ transaction.name
  pub has : SlotHas
  pub is : HasSlot all named.slot has
  pub keeps : HasTransaction streams all.kept transaction has

-- each state that is kept is the one after so many commits
abbrev pub AreStates : Streams → KeptStates → Type 0
AreStates streams kept =
    (commits : ℕ) (memory : memory.State) → kept_at commits kept ≡ Some memory
    → (commits ≤ length streams.journal) × Holds memory (state_after_first streams.base.state streams.journal commits)

-- the open transactions of streams are kept, and no others
pub record HoldsOpen (streams : Streams) (all : Open) : Type 0 where
  pub each : AllZip (IsOpen streams all) all.names streams.transactions
  pub kept : AreStates streams all.kept
