-- Transactions in streams: what each request is told where transactions are open, and what becomes of these and of the journal.
use Rattle.std.specs.Prelude.{◌≡◌, ◌⊎◌, ℕ, ◌+◌, Bool, true, false, not, ◌&&◌, List, [], ◌∷◌, ◌++◌, length, Option, Some, None, nat_le, nat_lt, slice_index, is_some, ◌==◌, if◌then◌else◌}
use Rattle.std.specs.List.{AllByRecursion, filter}
use Rattle.std.specs.Option.{option_to_list}
use Rattle.mx_vclock.specs.Vclocks.{max_lsn}
use Rattle.mx_base.specs.declared.ids.TxnName.{TxnName}
use Rattle.mx_base.specs.declared.kinds.Unsupported.TheVariants.{SchemaInTransaction}
use Rattle.mx_base.specs.declared.refusal.Refusal.TheVariants.{AllOfConnectionOpen, AllTransactionsOpen, Conflict, IllegalValue, LsnsUsedUp, OutOfMemory, ReadOnly, TransactionOpen, Unsupported}
use Rattle.mx_base.specs.Keys.{stream_key}
use Rattle.mx_request.specs.declared.request.Request.{Request}
use Rattle.mx_request.specs.declared.request.Request.TheVariants as request
use Rattle.mx_row.specs.declared.row.Row.{Row}
use Rattle.mx_row.specs.declared.tx.Tx.{Tx}
use Rattle.mx_row.specs.Clocks.{clock_after}
use Rattle.mx_schema.specs.State.{State}
use Rattle.mx_write.specs.Writable.{describes_schema}
use Rattle.mx_model.specs.declared.ids.Ids.{Ids}
use Rattle.mx_model.specs.declared.reply.Reply.{Reply}
use Rattle.mx_model.specs.declared.reply.Reply.TheVariants.{Empty, Refused}
use Rattle.mx_model.specs.Answers.{answer_without_space}
use Rattle.mx_model.specs.Bases.{Base, with_lsn, writable_node}
use Rattle.mx_model.specs.Overlaps.{Doomed, Standing, TransactionStep, Transaction, is_some_row, place_read, standing, state_after_first, statements_in}
use Rattle.mx_model.specs.RunAlone.{answer_alone, run_alone, statement_answer, writes}
use Rattle.mx_model.specs.Transactions.{state_after}
use Rattle.mx_model.specs.statements.Answer.{Answer}
use Rattle.mx_model.specs.statements.Statement.{Statement, statement_of}

-- how many transactions may be open, and on one connection
abbrev pub max_transactions : ℕ
max_transactions = 1024

abbrev pub max_transactions_of_connection : ℕ
max_transactions_of_connection = 64

-- what steps have come to: the base that they began with, the journal, and the open transactions
pub record Streams : Type 0 where
  pub base : Base
  pub journal : List Tx
  pub transactions : List Transaction

-- ---- names

abbrev pub is_name : (one other : TxnName) → Bool
is_name one other = (one.conn.0 == other.conn.0) && (one.stream.0 == other.stream.0)

-- the open transaction of this name
abbrev pub transaction_named : TxnName → List Transaction → Option Transaction
transaction_named name [] = None
transaction_named name (one ∷ others) = if is_name one.name name then Some one else transaction_named name others

-- the open transactions but the one of this name
abbrev pub without_named : TxnName → List Transaction → List Transaction
without_named name all = filter (λ one. not (is_name one.name name)) all

-- those of a connection, and those of the others
abbrev pub of_connection : (connection : ℕ) → List Transaction → List Transaction
of_connection connection all = filter (λ one. one.name.conn.0 == connection) all

abbrev pub of_others : (connection : ℕ) → List Transaction → List Transaction
of_others connection all = filter (λ one. not (one.name.conn.0 == connection)) all

-- a transaction has a stream, whose number isn't 0
abbrev pub HasStream : Transaction → Type 0
HasStream one = (one.name.stream.0 == 0) ≡ false

abbrev pub AllHaveStreams : List Transaction → Type 0
AllHaveStreams all = AllByRecursion HasStream all

-- ---- what a request is told

-- what becomes of the stream's transaction
pub data Becomes : Type 0 where
  Stays : Becomes
  Opens : Becomes
  Goes : TransactionStep → Becomes
  Ends : Becomes

-- a reply, the rows that are committed, and what becomes of the stream's transaction
pub record Outcome : Type 0 where
  pub reply : Reply
  pub rows : List Row
  pub becomes : Becomes

abbrev pub told_alone : Reply → Outcome
told_alone reply = record { reply = reply; rows = []; becomes = Stays }

abbrev pub ends_told : Reply → Outcome
ends_told reply = record { reply = reply; rows = []; becomes = Ends }

-- BEGIN, COMMIT and ROLLBACK need a stream
abbrev pub in_stream : TxnName → Outcome → Outcome
in_stream name outcome = if name.stream.0 == 0 then told_alone (Refused (IllegalValue stream_key)) else outcome

-- BEGIN
abbrev pub begins_beside : List Transaction → (connection : ℕ) → (present : Option Transaction) → Outcome
begins_beside all connection (Some transaction) = told_alone (Refused TransactionOpen)
begins_beside all connection None =
    if nat_le max_transactions_of_connection (length (of_connection connection all)) then told_alone (Refused AllOfConnectionOpen)
    else if nat_le max_transactions (length all) then told_alone (Refused AllTransactionsOpen)
    else record { reply = Empty; rows = []; becomes = Opens }

module _ (streams : Streams) where
  abbrev ids : Ids
  ids = streams.base.ids

  -- the newest state
  abbrev newest : State
  newest = state_after streams.base.state streams.journal

  -- the lsn of the last of so many further rows
  abbrev last_of : (count : ℕ) → ℕ
  last_of count = slice_index (clock_after streams.base.clock streams.journal) ids.me + count

  -- a COMMIT of these rows
  abbrev pub commits_rows : List Row → Outcome
  commits_rows [] = ends_told Empty
  commits_rows (row ∷ rows) =
      if not (ids.me == writable_node) then ends_told (Refused (ReadOnly (record { 0 = writable_node })))
      else if nat_lt max_lsn (last_of (length (row ∷ rows))) then ends_told (Refused LsnsUsedUp)
      else record { reply = Empty; rows = row ∷ rows; becomes = Ends }

  -- the state that a transaction reads, under its own writes
  abbrev pub state_read : Transaction → State
  state_read transaction = state_after_first streams.base.state streams.journal (place_read streams.base.state streams.journal transaction)

  abbrev pub standing_now : (is_write : Bool) → Transaction → Standing
  standing_now is_write transaction = standing ids streams.base.state streams.journal is_write transaction

  -- COMMIT of an open transaction: all that it has written, or a conflict
  abbrev pub commits_standing : Transaction → Standing → Outcome
  commits_standing transaction Doomed = ends_told (Refused Conflict)
  commits_standing transaction other = commits_rows (run_alone ids (state_read transaction) (statements_in transaction.steps)).rows

  abbrev pub commits : Option Transaction → Outcome
  commits None = told_alone Empty
  commits (Some transaction) = commits_standing transaction (standing_now false transaction)

  -- a statement of an open transaction: as it is answered alone, behind its earlier ones, or a conflict
  abbrev pub step_of : Statement → Answer → Reply → TransactionStep
  step_of statement answer reply = record { statement = statement; after = length streams.journal; reply = reply; reads = answer.reads }

  abbrev pub goes_on_with : TransactionStep → Outcome
  goes_on_with step = record { reply = step.reply; rows = []; becomes = Goes step }

  abbrev pub states_standing : Statement → Answer → Standing → Outcome
  states_standing statement answer Doomed = goes_on_with (step_of statement answer (Refused Conflict))
  states_standing statement answer other = goes_on_with (step_of statement answer answer.reply)

  abbrev pub states_in : Transaction → Statement → Outcome
  states_in transaction statement =
      if writes statement.operation && describes_schema statement.space then told_alone (Refused (Unsupported SchemaInTransaction))
      else states_standing statement (answer_alone ids (state_read transaction) statement (statements_in transaction.steps))
      (standing_now (writes statement.operation) transaction)

  -- a statement by itself, which commits its row
  abbrev pub states_alone_by : Answer → Outcome
  states_alone_by answer = record { reply = answer.reply; rows = option_to_list answer.row; becomes = Stays }

  abbrev pub states_alone : Statement → Outcome
  states_alone statement = let answer = statement_answer ids newest statement in states_alone_by (with_lsn (last_of 1) answer answer.row)

  abbrev pub states : (present : Option Transaction) → Statement → Outcome
  states None statement = states_alone statement
  states (Some transaction) statement = states_in transaction statement

  abbrev pub tells_statement : TxnName → Request → Option Statement → Outcome
  tells_statement name asked None = told_alone (answer_without_space asked).reply
  tells_statement name asked (Some statement) = states (transaction_named name streams.transactions) statement

  -- what a request under this name is told, and what comes of it
  abbrev pub outcome_of : TxnName → Request → Outcome
  outcome_of name request.Begin = in_stream name (begins_beside streams.transactions name.conn.0 (transaction_named name streams.transactions))
  outcome_of name request.Commit = in_stream name (commits (transaction_named name streams.transactions))
  outcome_of name request.Rollback = in_stream name (ends_told Empty)
  outcome_of name asked = tells_statement name asked (statement_of asked)

-- ---- out of memory

-- a statement is told this before memory is asked for: a conflict of its transaction, that the node takes no writes, or that a transaction
-- can't change spaces and indexes
abbrev pub needs_no_memory : Reply → Bool
needs_no_memory (Refused Conflict) = true
needs_no_memory (Refused (ReadOnly node)) = true
needs_no_memory (Refused (Unsupported SchemaInTransaction)) = true
needs_no_memory other = false

-- an outcome of a statement for which memory is asked
abbrev pub statement_may_lack : Outcome → Bool
statement_may_lack outcome = not (needs_no_memory outcome.reply)

-- an outcome of COMMIT for which memory is asked: it has rows
abbrev pub commit_may_lack : Outcome → Bool
commit_may_lack outcome = is_some_row outcome.rows

-- whether a request that has this outcome may be told that memory ran out in its place; such a step counts as not asked
abbrev pub may_lack_memory : Request → Outcome → Bool
may_lack_memory request.Commit outcome = commit_may_lack outcome
may_lack_memory asked outcome = is_some (statement_of asked) && statement_may_lack outcome

-- the reply is the one that is demanded; or it is out of memory, where memory is asked for
abbrev pub IsTold : Streams → TxnName → Request → Reply → Type 0
IsTold streams name asked reply =
    (reply ≡ (outcome_of streams name asked).reply)
    ⊎ ((may_lack_memory asked (outcome_of streams name asked) ≡ true) × (reply ≡ Refused OutOfMemory))

-- ---- what was told

-- what becomes of a transaction whose request was told this: a statement that it goes on with is kept with the reply
abbrev pub becomes_told : Reply → Becomes → Becomes
becomes_told reply (Goes step) = Goes (record step { reply = reply })
becomes_told reply other = other

-- an outcome with the reply that was told
abbrev pub told_as : Reply → Outcome → Outcome
told_as reply outcome = record { reply = reply; rows = outcome.rows; becomes = becomes_told reply outcome.becomes }

-- ---- what comes of it

abbrev pub transaction_with : TransactionStep → Transaction → Transaction
transaction_with step transaction = record transaction { steps = step ∷ transaction.steps }

-- with further statements, the newest first
abbrev pub transaction_with_all : List TransactionStep → Transaction → Transaction
transaction_with_all further transaction = record transaction { steps = further ++ transaction.steps }

-- the open transactions, where a step is added to the one of this name
abbrev pub with_step : TxnName → TransactionStep → List Transaction → List Transaction
with_step name step [] = []
with_step name step (one ∷ others) = if is_name one.name name then transaction_with step one ∷ others else one ∷ with_step name step others

abbrev pub open_after : (journal : List Tx) → TxnName → Becomes → List Transaction → List Transaction
open_after journal name Stays all = all
open_after journal name Opens all = record { name = name; begun = length journal; steps = [] } ∷ all
open_after journal name (Goes step) all = with_step name step all
open_after journal name Ends all = without_named name all

-- a commit of these rows by this node, where there are any
abbrev pub commit_with : Streams → List Row → List Tx
commit_with streams [] = []
commit_with streams (row ∷ rows) =
    record { replica = record { 0 = streams.base.ids.me }; first = record { 0 = last_of streams 1 }; rows = row ∷ rows } ∷ []

abbrev pub streams_after : Streams → TxnName → Outcome → Streams
streams_after streams name outcome = record {
  base = streams.base;
  journal = streams.journal ++ commit_with streams outcome.rows;
  transactions = open_after streams.journal name outcome.becomes streams.transactions;
}

-- a connection that disconnects has its transactions rolled back
abbrev pub streams_left : Streams → (connection : ℕ) → Streams
streams_left streams connection = record streams { transactions = of_others connection streams.transactions }
