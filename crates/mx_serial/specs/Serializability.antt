-- Serializability: each transaction of a history was answered as if it ran alone, and its commit stands where that is so.
use Rattle.std.specs.Prelude.{◌≡◌, ◌⊎◌, ⊤, ℕ, false, true, ◌+◌, ◌≤◌, List, [], ◌∷◌, ◌++◌, length, map, take, Option, Some, None, nat_lt, slice_get, slice_index, if◌then◌else◌}
use Rattle.std.specs.List.{AllByRecursion, Contains}
use Rattle.std.specs.Option.{option_to_list}
use Rattle.mx_base.specs.declared.ids.TxnName.{TxnName}
use Rattle.mx_base.specs.declared.refusal.Refusal.TheVariants.{LsnsUsedUp}
use Rattle.mx_request.specs.declared.request.Request.{Request}
use Rattle.mx_row.specs.declared.row.Row.{Row}
use Rattle.mx_row.specs.declared.tx.Tx.{Tx}
use Rattle.mx_row.specs.Clocks.{clock_after}
use Rattle.mx_vclock.specs.Vclocks.{max_lsn}
use Rattle.mx_model.specs.declared.reply.Reply.{Reply}
use Rattle.mx_model.specs.declared.reply.Reply.TheVariants.{Empty, Refused}
use Rattle.mx_model.specs.Alone.{AllStandAlone}
use Rattle.mx_model.specs.Bases.{Base, is_out_of_memory}
use Rattle.mx_model.specs.Histories.{History, journal_of, ledger_of}
use Rattle.mx_model.specs.HistoryStreams.{streams_in}
use Rattle.mx_model.specs.RunAlone.{statement_answer}
use Rattle.mx_model.specs.StreamHistories.{Disconnected, EndedTransaction, HaveOwnNames, RanAlone, Requested, StreamEntry, StreamHistory, begun_in, ended_by, ended_in, ends_now, streams_of, streams_with}
use Rattle.mx_model.specs.Overlaps.{Transaction}
use Rattle.mx_model.specs.Streams.{Streams, commit_with, outcome_of, step_of, transaction_named}
use Rattle.mx_model.specs.Transactions.{state_after}
use Rattle.mx_model.specs.statements.Answer.{Answer}
use Rattle.mx_model.specs.statements.Statement.{Statement, statement_of}

-- what a statement is answered on all that was committed
abbrev pub answer_by_itself : Streams → Statement → Answer
answer_by_itself streams statement = statement_answer streams.base.ids (state_after streams.base.state streams.journal) statement

-- A statement by itself was answered on all that was committed before it, and its row was committed right behind that. Where no lsn is left
-- for the row, it was told so, and nothing was committed.
abbrev pub RanByItself : Streams → Statement → Reply → (commits : List Tx) → Type 0
RanByItself streams statement reply commits =
    ((reply ≡ (answer_by_itself streams statement).reply) × (commits ≡ commit_with streams (option_to_list (answer_by_itself streams statement).row)))
    ⊎ ((reply ≡ Refused LsnsUsedUp) × (commits ≡ []) × (nat_lt max_lsn (slice_index (clock_after streams.base.clock streams.journal) streams.base.ids.me + 1) ≡ true))

-- so it is with a request in whose stream no transaction is open
abbrev pub EntryRanByItself : Streams → StreamEntry → Type 0
EntryRanByItself streams (Requested name asked reply) =
    (statement : Statement) → statement_of asked ≡ Some statement → transaction_named name streams.transactions ≡ None → is_out_of_memory reply ≡ false
    → (commits : List Tx) × ((streams_with streams (Requested name asked reply)).journal ≡ streams.journal ++ commits) × RanByItself streams statement reply commits
EntryRanByItself streams (Disconnected connection) = ⊤

-- and with all of them
abbrev pub AllRanByThemselves : Base → StreamHistory → Type 0
AllRanByThemselves base [] = ⊤
AllRanByThemselves base (entry ∷ earlier) = AllRanByThemselves base earlier × EntryRanByItself (streams_of base earlier) entry

-- a request asks this statement, and in its stream no transaction is open
abbrev pub StatesByItself : Streams → StreamEntry → Statement → Type 0
StatesByItself streams (Requested name asked reply) statement = (statement_of asked ≡ Some statement) × (transaction_named name streams.transactions ≡ None)
StatesByItself streams (Disconnected connection) statement = ⊥

-- rows that an entry may commit: none, those of the transaction that it ended, or that of a statement by itself
abbrev pub AreRowsOf : Streams → StreamEntry → List Row → Type 0
AreRowsOf streams entry rows =
    (rows ≡ [])
    ⊎ ((ended : EndedTransaction) × (ended_by streams entry ≡ ended ∷ []) × (ended.rows ≡ rows))
    ⊎ ((statement : Statement) × StatesByItself streams entry statement × (option_to_list (answer_by_itself streams statement).row ≡ rows))

-- the journal grows by nothing but such rows
abbrev pub EntryCommitsItsOwn : Streams → StreamEntry → Type 0
EntryCommitsItsOwn streams entry = (rows : List Row) × ((streams_with streams entry).journal ≡ streams.journal ++ commit_with streams rows) × AreRowsOf streams entry rows

-- so it does with each entry
abbrev pub AllCommitTheirOwn : Base → StreamHistory → Type 0
AllCommitTheirOwn base [] = ⊤
AllCommitTheirOwn base (entry ∷ earlier) = AllCommitTheirOwn base earlier × EntryCommitsItsOwn (streams_of base earlier) entry

-- ---- each transaction in its place

-- a statement by itself is a transaction of one step, which begins and commits with it
abbrev pub single_step : Streams → TxnName → Statement → Reply → List Row → EndedTransaction
single_step streams name statement reply rows = record {
  transaction = record { name = name; begun = length streams.journal; steps = step_of streams statement (answer_by_itself streams statement) reply ∷ [] };
  place = length streams.journal;
  by_commit = true;
  reply = reply;
  rows = rows;
}

-- that of a request which asks one, and in whose stream no transaction is open
abbrev pub single_steps : Streams → TxnName → Request → Reply → (asks : Option Statement) → (present : Option Transaction) → List EndedTransaction
single_steps streams name asked reply (Some statement) None = single_step streams name statement reply (outcome_of streams name asked).rows ∷ []
single_steps streams name asked reply asks present = []

-- the transactions that an entry completes: those that it ends, or the one that it is; what was told out of memory counts as not asked
abbrev pub transactions_of_entry : Streams → StreamEntry → List EndedTransaction
transactions_of_entry streams (Requested name asked reply) =
    ended_by streams (Requested name asked reply)
    ++ (if is_out_of_memory reply then [] else single_steps streams name asked reply (statement_of asked) (transaction_named name streams.transactions))
transactions_of_entry streams (Disconnected connection) = ended_by streams (Disconnected connection)

-- those of a history, the last of them first
abbrev pub past_transactions : Base → StreamHistory → List EndedTransaction
past_transactions base [] = []
past_transactions base (entry ∷ earlier) = transactions_of_entry (streams_of base earlier) entry ++ past_transactions base earlier

-- the open ones as far as they have come: as if their connections disconnected now
abbrev pub open_so_far : Streams → List EndedTransaction
open_so_far streams = map (ends_now streams false Empty []) streams.transactions

-- all transactions of a history
abbrev pub transactions_of_history : Base → StreamHistory → List EndedTransaction
transactions_of_history base history = open_so_far (streams_of base history) ++ past_transactions base history

-- it was told that no lsn is left for its row, which was so, and it committed nothing
pub record LackedLsn (base : Base) (journal : List Tx) (one : EndedTransaction) : Type 0 where
  pub within : one.place ≤ length journal
  pub told : one.reply ≡ Refused LsnsUsedUp
  pub none : one.rows ≡ []
  pub used_up : nat_lt max_lsn (slice_index (clock_after base.clock (take one.place journal)) base.ids.me + 1) ≡ true

-- The transactions of a history and its journal are one serial order. Each transaction has a k, its `place`, not before its BEGIN: its replies
-- are those of running alone on the first k transactions of the journal, or conflicts; its rows, if it committed any, are the next transaction;
-- and where it was told a conflict, a commit since its BEGIN wrote a key or a gap that it had read before (`RanAlone`). Only a statement by
-- itself may have been told that no lsn is left for its row. And each transaction of the journal is one's.
pub record IsSerialOrder (base : Base) (journal : List Tx) (transactions : List EndedTransaction) : Type 0 where
  pub placed : AllByRecursion (λ (one : EndedTransaction). RanAlone base journal one ⊎ LackedLsn base journal one) transactions
  pub commits : (k : ℕ) (commit : Tx) → slice_get journal k ≡ Some commit
      → (one : EndedTransaction) × Contains transactions one × (one.place ≡ k) × (one.rows ≡ commit.rows)

-- Each transaction that ended ran alone on one prefix of the journal, and right behind it stands its commit. Each that is open was answered
-- so too, and each statement outside of transactions ran by itself. Each commit of the journal is one of theirs. No transaction was lost, and no
-- two that are open have one name. All of them are one serial order with the journal.
pub record IsSerializable (base : Base) (history : History) : Type 0 where
  pub ended : AllByRecursion (RanAlone base (journal_of base history)) (ended_in base (streams_in history))
  pub still_open : AllStandAlone (ledger_of base history).streams
  pub by_themselves : AllRanByThemselves base (streams_in history)
  pub commits : AllCommitTheirOwn base (streams_in history)
  pub counted : begun_in (streams_in history) ≡ length (ended_in base (streams_in history)) + length (ledger_of base history).streams.transactions
  pub names : HaveOwnNames (ledger_of base history).streams.transactions
  pub order : IsSerialOrder base (journal_of base history) (transactions_of_history base (streams_in history))
