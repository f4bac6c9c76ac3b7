-- Histories of streams: requests and disconnects where transactions may be open, which of these histories are legal, and that each transaction that ended ran alone.
use Rattle.std.specs.Prelude.{◌≡◌, ◌≢◌, ◌⊎◌, ⊤, ℕ, pred, ◌+◌, ◌<◌, ◌≤◌, Bool, true, false, List, [], ◌∷◌, ◌++◌, length, map, Option, Some, slice_get, if◌then◌else◌}
use Rattle.std.specs.List.{AllByRecursion, AllZip, Contains}
use Rattle.std.specs.Option.{option_to_list}
use Rattle.mx_base.specs.declared.ids.TxnName.{TxnName}
use Rattle.mx_base.specs.declared.refusal.Refusal.TheVariants.{Conflict}
use Rattle.mx_request.specs.declared.request.Request.{Request}
use Rattle.mx_request.specs.declared.request.Request.TheVariants as request
use Rattle.mx_row.specs.declared.row.Row.{Row}
use Rattle.mx_row.specs.declared.tx.Tx.{Tx}
use Rattle.mx_schema.specs.Sound.{IsSound}
use Rattle.mx_model.specs.declared.reply.Reply.{Reply}
use Rattle.mx_model.specs.declared.reply.Reply.TheVariants.{Empty, Refused}
use Rattle.mx_model.specs.Alone.{IsToldAlone}
use Rattle.mx_model.specs.Bases.{Base, CanBeAsked, is_out_of_memory}
use Rattle.mx_model.specs.Overlaps.{TransactionStep, Transaction, place_read, reads_before, state_after_first, statements_in}
use Rattle.mx_model.specs.RunAlone.{Run, run_alone}
use Rattle.mx_model.specs.Streams.{Becomes, Ends, IsTold, Outcome, Streams, is_name, of_connection, outcome_of, streams_after, streams_left, told_as, transaction_named}
use Rattle.mx_model.specs.Touches.{rows_meet}
use Rattle.mx_model.specs.statements.Answer.{Answer}

-- a request under a name with its reply, or a connection that disconnects
pub data StreamEntry : Type 0 where
  Requested : TxnName → Request → Reply → StreamEntry
  Disconnected : (connection : ℕ) → StreamEntry

-- the newest entry first
abbrev pub StreamHistory : Type 0
StreamHistory = List StreamEntry

-- What an entry makes of the journal and of the open transactions. These record the entry's own reply; a request that was told out of
-- memory counts as not asked.
abbrev pub streams_with : Streams → StreamEntry → Streams
streams_with streams (Requested name asked reply) =
    if is_out_of_memory reply then streams else streams_after streams name (told_as reply (outcome_of streams name asked))
streams_with streams (Disconnected connection) = streams_left streams connection

-- what a history has come to, from a base with no commits and no open transactions
abbrev pub streams_of : Base → StreamHistory → Streams
streams_of base [] = record { base = base; journal = []; transactions = [] }
streams_of base (entry ∷ earlier) = streams_with (streams_of base earlier) entry

-- a request can be asked, and its reply is the one that is demanded, or out of memory where memory is asked for; a connection may
-- disconnect at any time
abbrev pub FollowsStreams : Streams → StreamEntry → Type 0
FollowsStreams streams (Requested name asked reply) = CanBeAsked asked × IsTold streams name asked reply
FollowsStreams streams (Disconnected connection) = ⊤

-- the base is sound, and each entry is what the entries before it demand
abbrev pub IsLegalStreams : Base → StreamHistory → Type 0
IsLegalStreams base [] = IsSound base.state
IsLegalStreams base (entry ∷ earlier) = IsLegalStreams base earlier × FollowsStreams (streams_of base earlier) entry

-- ---- transactions that ended

-- a transaction that ended: how many transactions the prefix of the journal had that it read, whether COMMIT ended it, what the request
-- that ended it was told, and the rows that it committed
pub record EndedTransaction : Type 0 where
  pub transaction : Transaction
  pub place : ℕ
  pub by_commit : Bool
  pub reply : Reply
  pub rows : List Row

-- an open transaction that ends now
abbrev pub ends_now : Streams → (by_commit : Bool) → Reply → List Row → Transaction → EndedTransaction
ends_now streams by_commit reply rows transaction = record {
  transaction = transaction;
  place = place_read streams.base.state streams.journal transaction;
  by_commit = by_commit;
  reply = reply;
  rows = rows;
}

abbrev pub is_commit : Request → Bool
is_commit request.Commit = true
is_commit other = false

-- the transaction that a request ended, where it ended one
abbrev pub ended_where : Streams → (by_commit : Bool) → Outcome → Becomes → (present : Option Transaction) → List EndedTransaction
ended_where streams by_commit outcome Ends present = map (ends_now streams by_commit outcome.reply outcome.rows) (option_to_list present)
ended_where streams by_commit outcome other present = []

abbrev pub ended_as : Streams → TxnName → (by_commit : Bool) → Outcome → List EndedTransaction
ended_as streams name by_commit outcome = ended_where streams by_commit outcome outcome.becomes (transaction_named name streams.transactions)

-- the transactions that an entry ended, with the entry's own reply: a COMMIT or ROLLBACK ends one, and a connection that disconnects ends
-- all of its own
abbrev pub ended_by : Streams → StreamEntry → List EndedTransaction
ended_by streams (Requested name asked reply) =
    if is_out_of_memory reply then [] else ended_as streams name (is_commit asked) (told_as reply (outcome_of streams name asked))
ended_by streams (Disconnected connection) = map (ends_now streams false Empty []) (of_connection connection streams.transactions)

-- the transactions that ended in a history, the last of them first
abbrev pub ended_in : Base → StreamHistory → List EndedTransaction
ended_in base [] = []
ended_in base (entry ∷ earlier) = ended_by (streams_of base earlier) entry ++ ended_in base earlier

-- how many transactions an entry began: one where BEGIN was told that it did
abbrev pub begun_by : StreamEntry → ℕ
begun_by (Requested name request.Begin Empty) = 1
begun_by other = 0

-- how many were begun in a history
abbrev pub begun_in : StreamHistory → ℕ
begun_in [] = 0
begun_in (entry ∷ earlier) = begun_by entry + begun_in earlier

-- no two of these transactions have one name
abbrev pub HaveOwnNames : List Transaction → Type 0
HaveOwnNames [] = ⊤
HaveOwnNames (one ∷ others) = AllByRecursion (λ (other : Transaction). is_name other.name one.name ≡ false) others × HaveOwnNames others

-- ---- as if alone

-- its statements, run alone on the prefix of the journal that it read
abbrev pub run_of : Base → List Tx → EndedTransaction → Run
run_of base journal ended = run_alone base.ids (state_after_first base.state journal ended.place) (statements_in ended.transaction.steps)

-- its statements were told exactly what they are told alone
abbrev pub WasToldAlone : Base → List Tx → EndedTransaction → Type 0
WasToldAlone base journal ended =
    map (λ (step : TransactionStep). step.reply) ended.transaction.steps ≡ map (λ (answer : Answer). answer.reply) (run_of base journal ended).answers

-- a statement of it was told a conflict, or its COMMIT
abbrev pub WasToldConflict : EndedTransaction → Type 0
WasToldConflict ended = (ended.reply ≡ Refused Conflict) ⊎ Contains (map (λ (step : TransactionStep). step.reply) ended.transaction.steps) (Refused Conflict)

-- a commit since its BEGIN touched what a statement of it had read before that commit
abbrev pub HasOverlap : Base → List Tx → Transaction → Type 0
HasOverlap base journal transaction =
    (number : ℕ) × (commit : Tx) × (transaction.begun < number) × (number ≤ length journal) × (slice_get journal (pred number) ≡ Some commit)
    × (rows_meet (state_after_first base.state journal (pred number)) commit.rows (reads_before number transaction.steps) ≡ true)

-- the journal has its commit right behind the prefix that it read, made by this node, with the rows that it leaves alone
pub record HasCommitted (base : Base) (journal : List Tx) (ended : EndedTransaction) : Type 0 where
  pub commit : Tx
  pub there : slice_get journal ended.place ≡ Some commit
  pub by_node : commit.replica.0 ≡ base.ids.me
  pub same_rows : commit.rows ≡ ended.rows
  pub rows_alone : ended.rows ≡ (run_of base journal ended).rows
  pub exact : WasToldAlone base journal ended

-- that is so where it committed rows
abbrev pub CommittedAlone : Base → List Tx → EndedTransaction → (rows : List Row) → Type 0
CommittedAlone base journal ended [] = ⊤
CommittedAlone base journal ended (row ∷ rows) = HasCommitted base journal ended

-- A transaction that ended was answered alone on a prefix of the journal, which has all that was committed before its BEGIN: each statement was
-- told what it is told there, or a conflict; none was told one where its COMMIT wasn't; and where there was one, a commit overlapped it.
pub record WasAnsweredAlone (base : Base) (journal : List Tx) (ended : EndedTransaction) : Type 0 where
  pub since : ended.transaction.begun ≤ ended.place
  pub within : ended.place ≤ length journal
  pub told : AllZip IsToldAlone ended.transaction.steps (run_of base journal ended).answers
  pub exact : ended.by_commit ≡ true → ended.reply ≢ Refused Conflict → WasToldAlone base journal ended
  pub conflict : WasToldConflict ended → HasOverlap base journal ended.transaction

-- A transaction that ended ran alone: it was answered alone on a prefix of the journal; where its COMMIT was acknowledged, it committed exactly
-- the rows that it leaves there; and what it committed stands right behind that prefix.
pub record RanAlone (base : Base) (journal : List Tx) (ended : EndedTransaction) : Type 0 where
  pub answered : WasAnsweredAlone base journal ended
  pub acknowledged : ended.by_commit ≡ true → ended.reply ≡ Empty → ended.rows ≡ (run_of base journal ended).rows
  pub committed : CommittedAlone base journal ended ended.rows
