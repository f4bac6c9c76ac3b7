-- Only private functions and proofs need these: an engine after a step.
use Rattle.std.specs.Prelude.{◌≡◌, ◌⊎◌, ℕ, suc, Bool, false, true, ◌+◌, ◌%◌, ◌^◌, ◌<◌, List, [], ◌∷◌, ◌++◌, length, Option, Some, None, Result, Ok, Err, MatchOption, if◌then◌else◌}
use Rattle.mx_base.specs.declared.ids.SpaceId.{SpaceId}
use Rattle.mx_base.specs.declared.ids.TxnName.{TxnName}
use Rattle.mx_base.specs.declared.refusal.Refusal.{Refusal}
use Rattle.mx_base.specs.declared.refusal.Refusal.TheVariants.{OutOfMemory}
use Rattle.mx_request.specs.declared.request.Request.{Request}
use Rattle.mx_row.specs.declared.row.Row.{Row}
use Rattle.mx_row.specs.declared.tx.Tx.{Tx}
use Rattle.mx_schema.specs.Catalogues.{schema_of}
use Rattle.mx_space.specs.declared.prepared.Step.{Step}
use Rattle.mx_space.specs.Reserves.{IsReserved}
use Rattle.mx_entries.specs.PlainChanges.{PlainChange, state_with_all}
use Rattle.mx_space.specs.Stored.{Holds}
use Rattle.mx_tracker.specs.declared.touched.Touched as coded
use Rattle.mx_txn.specs.declared.state.TxnState.TheVariants as txn
use Rattle.mx_txn.specs.Slots.{max_open}
use Rattle.mx_judge.specs.declared.made.Made as code
use Rattle.mx_write.specs.declared.writable.Writer.TheVariants.{Client}
use Rattle.mx_write.specs.declared.write.Write.{Write}
use Rattle.mx_write.specs.Judge.{judged_write}
use Rattle.mx_write.specs.Made.{Made, row_with}
use Rattle.mx_judge.specs.Makes.{MakesWrite}
use Rattle.mx_write.specs.Notes.{AddsReads, Noted}
use Rattle.mx_write.specs.Views.{write_view}
use Rattle.mx_write.specs.Writable.{describes_schema}
use Rattle.mx_write.specs.Writes.{HasBytes}
use Rattle.mx_model.specs.declared.reply.Reply.{Reply}
use Rattle.mx_model.specs.declared.reply.Reply.TheVariants.{Refused}
use Rattle.mx_model.specs.Alone.{AllStandAlone, StandsAlone}
use Rattle.mx_model.specs.Answers.{state_after_rows}
use Rattle.mx_model.specs.Bases.{writable_node}
use Rattle.mx_model.specs.Overlaps.{Active, Transaction, statements_in}
use Rattle.mx_model.specs.RunAlone.{Run, answer_in_run, run_alone}
use Rattle.mx_model.specs.statements.Answer.{Answer}
use Rattle.mx_model.specs.statements.Statement.{Statement}
use Rattle.mx_model.specs.Streams.{Outcome, Streams, commit_may_lack, commit_with, may_lack_memory, outcome_of, standing_now, statement_may_lack, streams_after, transaction_named}
use Rattle.mx_model.specs.Transactions.{is_schema_commit}
use Rattle.mx_engine.specs.declared.engine.Engine.{Engine}
use Rattle.mx_engine.specs.declared.answer.Answered.{Answered}
use Rattle.mx_transactions.specs.Open.{HaveOwnSlots, HasRun, HasSlot, HasTransaction, HoldsOpen, SlotHas, newest_state, slot_named}
use Rattle.mx_transactions.specs.OpenSteps.{AreMarks, ViewsAreKept, Moves, SpellsRows}
use Rattle.mx_engine.specs.Standing.{HasStreams}
use Rattle.mx_engine.specs.Views.{reply_of}

-- the reply is this answer's, or out of memory
abbrev pub IsReplyOf : Reply → Answer → Type 0
IsReplyOf reply answer = (reply ≡ answer.reply) ⊎ (reply ≡ Refused OutOfMemory)

-- the number of steps and which of them are durable are as they were
pub record SameNode (old new : Engine) : Type 0 where
  pub count : new.count ≡ old.count
  pub durable : new.durable ≡ old.durable

-- the step that it makes now is counted, of fewer than 2^63
pub record CountsStep (engine : Engine) : Type 0 where
  pub few : engine.commits < engine.count
  pub bound : engine.count < 2 ^ 63

-- the schema's version after more transactions
abbrev pub version_after : (version : ℕ) → List Tx → ℕ
version_after version [] = version
version_after version (transaction ∷ others) = version_after (if is_schema_commit transaction then (version + 1) % 2 ^ 32 else version) others

-- ---- what a request makes of the engine

-- the reply is this outcome's, the engine has what comes of it, and its commit waits behind the others
pub record TellsOutcome (old new : Engine) (streams : Streams) (name : TxnName) (outcome : Outcome) (reply : Reply) : Type 0 where
  pub told : reply ≡ outcome.reply
  pub after : HasStreams new (streams_after streams name outcome)
  pub pending : new.pending ≡ old.pending ++ commit_with streams outcome.rows
  pub schema : new.schema ≡ version_after old.schema (commit_with streams outcome.rows)

-- the engine has what it had
pub record Keeps (old new : Engine) (streams : Streams) : Type 0 where
  pub has : HasStreams new streams
  pub pending : new.pending ≡ old.pending
  pub schema : new.schema ≡ old.schema

-- or it ran out of memory, and has what it had
abbrev pub TellsOrLacks : (old new : Engine) → Streams → TxnName → Outcome → Reply → Type 0
TellsOrLacks old new streams name outcome reply =
    TellsOutcome old new streams name outcome reply ⊎ ((reply ≡ Refused OutOfMemory) × Keeps old new streams)

-- so it is where memory may be lacking; elsewhere the outcome is told
abbrev pub AnswersOutcome : (may_lack : Bool) (old new : Engine) → Streams → TxnName → Outcome → Reply → Type 0
AnswersOutcome may_lack old new streams name outcome reply =
    TellsOutcome old new streams name outcome reply ⊎ ((may_lack ≡ true) × (reply ≡ Refused OutOfMemory) × Keeps old new streams)

-- a statement is told its outcome; where that may lack memory, it may be told that
abbrev pub AnswersStatement : (old new : Engine) → Streams → TxnName → Outcome → Reply → Type 0
AnswersStatement old new streams name outcome reply = AnswersOutcome (statement_may_lack outcome) old new streams name outcome reply

-- so is a COMMIT
abbrev pub AnswersCommit : (old new : Engine) → Streams → TxnName → Outcome → Reply → Type 0
AnswersCommit old new streams name outcome reply = AnswersOutcome (commit_may_lack outcome) old new streams name outcome reply

-- and every request
abbrev pub AnswersRequest : (old new : Engine) → Streams → TxnName → Request → Reply → Type 0
AnswersRequest old new streams name asked reply =
    AnswersOutcome (may_lack_memory asked (outcome_of streams name asked)) old new streams name (outcome_of streams name asked) reply

-- ---- open transactions

-- a slot has the open transaction of a name
pub record IsOpenIn (engine : Engine) (streams : Streams) (name : TxnName) (found : ℕ) (one : Transaction) : Type 0 where
  pub has : HasStreams engine streams
  pub named : transaction_named name streams.transactions ≡ Some one
  pub slot : slot_named name engine.open.names ≡ Some found
  pub kept : SlotHas
  pub is : HasSlot engine.open found kept
  pub keeps : HasTransaction streams engine.open.kept one kept
  pub apart : HaveOwnSlots engine.open.names
  pub alone : StandsAlone streams.base.ids streams.base.state streams.journal one

-- what its statements have come to alone, on the newest state
abbrev pub newest_run : Streams → Transaction → Run
newest_run streams one = run_alone streams.base.ids (newest_state streams) (statements_in one.steps)

-- what a further statement of it is answered alone there
abbrev pub newest_answer : Streams → Transaction → Statement → Answer
newest_answer streams one statement = answer_in_run streams.base.ids (newest_run streams one) statement

-- it is active, and the slot has what its statements have come to
pub record IsActiveIn (engine : Engine) (streams : Streams) (name : TxnName) (slot : ℕ) (one : Transaction) : Type 0 where
  pub is_open : IsOpenIn engine streams name slot one
  pub active : standing_now streams false one ≡ Active
  pub run : HasRun (newest_state streams) (newest_run streams one) is_open.kept.work is_open.kept.reads
  pub state : (since : ℕ) × (is_open.kept.state ≡ Some (txn.Active since))

-- what a statement of it is told that changes nothing, and what it has read was noted; or it ran out of memory
abbrev pub AnswersAlone : Streams → Transaction → Statement → (found : List (List ℕ)) → Result Answered Refusal → Noted → Type 0
AnswersAlone streams one statement found result notes =
    let answer = newest_answer streams one statement in
    (result ≡ Err OutOfMemory)
    ⊎ ((reply_of result found ≡ answer.reply) × (answer.row ≡ None) × (answer.change ≡ None) × AddsReads (Some []) notes answer.reads)

-- a write of it was judged to make this, and what it has read was noted
pub record IsMadeIn (streams : Streams) (one : Transaction) (space : SpaceId) (write : Write) (made : code.Made) (now : Noted) : Type 0 where
  pub to : Made
  pub judged : (judged_write Client (newest_run streams one).state space.0 (write_view write)).outcome ≡ Ok to
  pub makes : MakesWrite (newest_run streams one).state space.0 (write_view write) made to
  pub notes : AddsReads (Some []) now (judged_write Client (newest_run streams one).state space.0 (write_view write)).reads

-- the row of what a write makes
abbrev pub row_made : SpaceId → Write → code.Made → Row
row_made space write made = row_with space.0 (write_view write) made.row_key

-- ---- a write by itself

-- a write on the node that may be written was judged to make this, on the newest state
pub record IsWriteOf (engine : Engine) (streams : Streams) (space : SpaceId) (write : Write) (made : code.Made) : Type 0 where
  pub has : HasStreams engine streams
  pub all : AllStandAlone streams
  pub counts : CountsStep engine
  pub me : streams.base.ids.me ≡ writable_node
  pub bytes : HasBytes (write_view write)
  pub to : Made
  pub judged : (judged_write Client (newest_state streams) space.0 (write_view write)).outcome ≡ Ok to
  pub makes : MakesWrite (newest_state streams) space.0 (write_view write) made to

-- all but the open transactions and what is kept for them is as it was
pub record SameButOpen (old new : Engine) : Type 0 where
  pub state : new.state ≡ old.state
  pub clock : new.clock ≡ old.clock
  pub ids : new.ids ≡ old.ids
  pub commits : new.commits ≡ old.commits
  pub pending : new.pending ≡ old.pending
  pub schema : new.schema ≡ old.schema
  pub count : new.count ≡ old.count
  pub durable : new.durable ≡ old.durable

-- the open transactions that a commit of a row overlaps are marked, and ready for it; there may be none open
pub record Prepares (old new : Engine) (streams : Streams) (row : Row) (found : Option (List Bool)) : Type 0 where
  pub same : SameButOpen old new
  pub transactions : HoldsOpen streams new.open
  pub marks : MatchOption found (new.open.names ≡ [])
      (λ made. (keys : List coded.Touched) × SpellsRows (newest_state streams) (row ∷ []) keys × AreMarks new.open made keys × ViewsAreKept new.open made old.commits None × (length new.open.works ≡ max_open))

-- the other open transactions that the writes of one overlap are marked, and ready for its commit; there may be no other
pub record ReadiesOthers (old new : Engine) (streams : Streams) (one : Transaction) (slot : ℕ) (found : Option (List Bool)) : Type 0 where
  pub transactions : HoldsOpen streams new.open
  pub marks : MatchOption found (length old.open.names ≡ 1)
      (λ made. (keys : List coded.Touched) × SpellsRows (newest_state streams) (newest_run streams one).rows keys × AreMarks old.open made keys × ViewsAreKept new.open made old.commits (Some slot))

-- the commit of a row
abbrev pub transaction_of : (lsn : ℕ) → Row → Tx
transaction_of lsn row = record { replica = record { 0 = writable_node }; first = record { 0 = lsn }; rows = row ∷ [] }

-- that, and the commit waits behind the others
pub record Readies (old new : Engine) (streams : Streams) (row : Row) (commit : Tx) (found : Option (List Bool)) : Type 0 where
  pub between : Engine
  pub prepares : Prepares old between streams row found
  pub is : new ≡ record between { pending = between.pending ++ commit ∷ [] }

-- a commit into a space is counted, and those that it overlaps are moved, where there are marks
pub record CountsCommit (old new : Engine) (space : ℕ) (marks : Option (List Bool)) : Type 0 where
  pub state : new.state ≡ old.state
  pub clock : new.clock ≡ old.clock
  pub ids : new.ids ≡ old.ids
  pub pending : new.pending ≡ old.pending
  pub schema : new.schema ≡ (if describes_schema space then (old.schema + 1) % 2 ^ 32 else old.schema)
  pub commits : old.commits < 2 ^ 63 → new.commits ≡ suc old.commits
  pub moves : MatchOption marks (new.open ≡ old.open)
      (λ made. Moves old.open new.open made (describes_schema space) old.commits)

-- the commit is made, but for the vclock
pub record Stores (old new : Engine) (streams : Streams) (commit : Tx) : Type 0 where
  pub holds : Holds new.state (state_after_rows (newest_state streams) commit.rows)
  pub ids : new.ids ≡ old.ids
  pub pending : new.pending ≡ old.pending ++ commit ∷ []
  pub schema : new.schema ≡ version_after old.schema (commit ∷ [])
  pub commits : new.commits ≡ suc old.commits
  pub transactions : HoldsOpen (record streams { journal = streams.journal ++ commit ∷ [] }) new.open

-- ---- COMMIT

-- the memory for what an active transaction has written is taken, in the state and behind the commits that wait
pub record Reserves (old new : Engine) (streams : Streams) (one : Transaction) (first : ℕ) (prepared : List Step) : Type 0 where
  pub all : List PlainChange
  pub reserved : IsReserved (schema_of (newest_state streams)) new.state (newest_state streams) prepared all
  pub makes : state_with_all (newest_state streams) all ≡ (newest_run streams one).state
  pub pending : new.pending ≡ old.pending ++ record { replica = record { 0 = writable_node }; first = record { 0 = first }; rows = [] } ∷ []
  pub clock : new.clock ≡ old.clock
  pub ids : new.ids ≡ old.ids
  pub commits : new.commits ≡ old.commits
  pub schema : new.schema ≡ old.schema
  pub same_open : new.open ≡ old.open
