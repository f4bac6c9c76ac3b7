-- No reply that is demanded is out of memory.
use Rattle.std.proofs.Common.{Bool, List, None, Option, Some, [], false, length, refl, true, ℕ, ◌≡◌}
use Rattle.std.specs.Prelude.{nat_le, nat_lt, if◌then◌else◌, ◌==◌, ◌&&◌}
use Rattle.mx_base.specs.Keys.{stream_key}
use Rattle.mx_base.specs.declared.ids.TxnName.{TxnName}
use Rattle.mx_base.specs.declared.kinds.Unsupported.TheVariants.{SchemaInTransaction}
use Rattle.mx_base.specs.declared.refusal.Refusal.TheVariants.{AllOfConnectionOpen, AllTransactionsOpen, IllegalValue, LsnsUsedUp, Unsupported}
use Rattle.mx_model.specs.Answers.{answer_without_space}
use Rattle.mx_model.specs.Bases.{is_out_of_memory, with_lsn}
use Rattle.mx_model.specs.Overlaps.{Active, Doomed, Standing, Transaction, View, standing, statements_in}
use Rattle.mx_model.specs.RunAlone.{Run, answer_in_run, run_alone, statement_answer, writes}
use Rattle.mx_model.specs.Streams.{Opens, Outcome, Streams, begins_beside, commits, commits_rows, commits_standing, ends_told, in_stream, max_transactions, max_transactions_of_connection, of_connection, outcome_of, state_read, states, states_standing, tells_statement, told_alone, transaction_named}
use Rattle.mx_model.specs.Transactions.{state_after}
use Rattle.mx_model.specs.declared.ids.Ids.{Ids}
use Rattle.mx_model.specs.declared.reply.Reply.{Reply}
use Rattle.mx_model.specs.declared.reply.Reply.TheVariants.{Empty, Refused}
use Rattle.mx_model.specs.statements.Answer.{Answer, refusal_after}
use Rattle.mx_model.specs.statements.Statement.{Statement, statement_of}
use Rattle.mx_request.specs.declared.request.Request.{Request}
use Rattle.mx_row.specs.declared.row.Row.{Row}
use Rattle.mx_vclock.specs.Vclocks.{max_lsn}
use Rattle.mx_write.specs.Writable.{describes_schema}
use Rattle.mx_model.proofs.ConflictAnswers.{further_other, rows_other, statement_other, tells_memory}
use Rattle.mx_request.specs.declared.request.Request.TheVariants as request

-- a reply isn't out of memory
abbrev HasMemoryFor : Reply → Type 0
HasMemoryFor reply = is_out_of_memory reply ≡ false

module _ (streams : Streams) (name : TxnName) where
  abbrev ids : Ids
  ids = streams.base.ids

  in_stream_tells : (outcome : Outcome) → HasMemoryFor outcome.reply → HasMemoryFor (in_stream name outcome).reply
  in_stream_tells outcome has = by_test (name.stream.0 == 0)
    where
      by_test : (b : Bool) → HasMemoryFor (if b then told_alone (Refused (IllegalValue stream_key)) else outcome).reply
      by_test true = refl
      by_test false = has

  begins_tells : (present : Option Transaction) → HasMemoryFor (begins_beside streams.transactions name.conn.0 present).reply
  begins_tells (Some transaction) = refl
  begins_tells None =
      by_tests (nat_le max_transactions_of_connection (length (of_connection name.conn.0 streams.transactions))) (nat_le max_transactions (length streams.transactions))
    where
      by_tests : (of_this of_all : Bool)
          → HasMemoryFor (if of_this then told_alone (Refused AllOfConnectionOpen) else if of_all then told_alone (Refused AllTransactionsOpen)
          else record { reply = Empty; rows = []; becomes = Opens }).reply
      by_tests true of_all = refl
      by_tests false true = refl
      by_tests false false = refl

  commits_tells : (present : Option Transaction) → HasMemoryFor (commits streams present).reply
  commits_tells None = refl
  commits_tells (Some transaction) = by_standing (standing ids streams.base.state streams.journal false transaction)
    where
      rows : List Row
      rows = (run_alone ids (state_read streams transaction) (statements_in transaction.steps)).rows

      by_standing : (how : Standing) → HasMemoryFor (commits_standing streams transaction how).reply
      by_standing Active = tells_memory (commits_rows streams rows).reply (rows_other streams rows)
      by_standing (View place) = tells_memory (commits_rows streams rows).reply (rows_other streams rows)
      by_standing Doomed = refl

  numbered_tells : (lsn : ℕ) (answer : Answer) (row : Option Row) → HasMemoryFor answer.reply → HasMemoryFor (with_lsn lsn answer row).reply
  numbered_tells lsn answer None has = has
  numbered_tells lsn answer (Some row) has = by_test (nat_lt max_lsn lsn)
    where
      by_test : (above : Bool) → HasMemoryFor (if above then refusal_after answer.reads LsnsUsedUp else answer).reply
      by_test true = refl
      by_test false = has

  states_tells : (statement : Statement) (present : Option Transaction) → HasMemoryFor (states streams present statement).reply
  states_tells statement None =
      let answer = statement_answer ids (state_after streams.base.state streams.journal) statement in
      numbered_tells _ answer answer.row (tells_memory answer.reply (statement_other ids (state_after streams.base.state streams.journal) statement))
  states_tells statement (Some transaction) = by_test (writes statement.operation && describes_schema statement.space)
    where
      run : Run
      run = run_alone ids (state_read streams transaction) (statements_in transaction.steps)

      answer : Answer
      answer = answer_in_run ids run statement

      has : HasMemoryFor answer.reply
      has = tells_memory answer.reply (further_other ids run statement)

      by_standing : (how : Standing) → HasMemoryFor (states_standing streams statement answer how).reply
      by_standing Active = has
      by_standing (View place) = has
      by_standing Doomed = refl

      by_test : (b : Bool) → HasMemoryFor (if b then told_alone (Refused (Unsupported SchemaInTransaction))
          else states_standing streams statement answer (standing ids streams.base.state streams.journal (writes statement.operation) transaction)).reply
      by_test true = refl
      by_test false = by_standing (standing ids streams.base.state streams.journal (writes statement.operation) transaction)

  alone_tells : (asked : Request) → HasMemoryFor (answer_without_space asked).reply
  alone_tells request.Nop = refl
  alone_tells request.Ping = refl
  alone_tells request.Id = refl
  alone_tells other = refl

  tells_tells : (asked : Request) (statement : Option Statement) → HasMemoryFor (tells_statement streams name asked statement).reply
  tells_tells asked None = alone_tells asked
  tells_tells asked (Some statement) = states_tells statement (transaction_named name streams.transactions)

  -- no reply that is demanded is out of memory
  pub demanded_memory : (asked : Request) → is_out_of_memory (outcome_of streams name asked).reply ≡ false
  demanded_memory request.Begin = in_stream_tells _ (begins_tells (transaction_named name streams.transactions))
  demanded_memory request.Commit = in_stream_tells _ (commits_tells (transaction_named name streams.transactions))
  demanded_memory request.Rollback = in_stream_tells (ends_told Empty) refl
  demanded_memory other = tells_tells other (statement_of other)
