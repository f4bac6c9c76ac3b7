-- Whose rows a request commits: those of the transaction that it ends, or that of a statement by itself.
use Rattle.std.proofs.Common.{◌≡◌, ℕ, ◌+◌, Bool, true, false, not, ◌&&◌, List, [], ◌∷◌, length, Some, None, Option, inl, inr, refl}
use Rattle.std.specs.Prelude.{nat_le, nat_lt, slice_index, ◌==◌, ◌⊎◌, if◌then◌else◌}
use Rattle.std.specs.Option.{option_to_list}
use Rattle.mx_base.specs.Keys.{stream_key}
use Rattle.mx_base.specs.declared.ids.TxnName.{TxnName}
use Rattle.mx_base.specs.declared.kinds.Unsupported.TheVariants.{SchemaInTransaction}
use Rattle.mx_base.specs.declared.refusal.Refusal.TheVariants.{AllOfConnectionOpen, AllTransactionsOpen, IllegalValue, LsnsUsedUp, ReadOnly, Unsupported}
use Rattle.mx_request.specs.declared.request.Request.{Request}
use Rattle.mx_row.specs.declared.row.Row.{Row}
use Rattle.mx_row.specs.Clocks.{clock_after}
use Rattle.mx_vclock.specs.Vclocks.{max_lsn}
use Rattle.mx_write.specs.Writable.{describes_schema}
use Rattle.mx_model.specs.declared.reply.Reply.TheVariants.{Empty, Refused}
use Rattle.mx_model.specs.Bases.{with_lsn, writable_node}
use Rattle.mx_model.specs.Overlaps.{Active, Doomed, Standing, Transaction, View, standing, statements_in}
use Rattle.mx_model.specs.RunAlone.{answer_alone, writes}
use Rattle.mx_serial.specs.Serializability.{answer_by_itself}
use Rattle.mx_model.specs.Streams.{Ends, Opens, Outcome, Streams, begins_beside, commits, commits_rows, commits_standing, ends_told, in_stream, max_transactions, max_transactions_of_connection, of_connection, outcome_of, state_read, states, states_alone, states_alone_by, states_standing, tells_statement, told_alone, transaction_named}
use Rattle.mx_model.specs.statements.Answer.{Answer, refusal_after}
use Rattle.mx_model.specs.statements.Statement.{Statement, statement_of}
use Rattle.mx_request.specs.declared.request.Request.TheVariants as request

module _ (streams : Streams) (name : TxnName) (asked : Request) where
  -- it has no rows, ends the transaction of the stream, or is that of a statement by itself
  abbrev pub RowsDue : Outcome → Type 0
  RowsDue outcome =
      (outcome.rows ≡ [])
      ⊎ ((outcome.becomes ≡ Ends) × (one : Transaction) × (transaction_named name streams.transactions ≡ Some one))
      ⊎ ((statement : Statement) × ((statement_of asked ≡ Some statement) × (transaction_named name streams.transactions ≡ None))
      × (option_to_list (answer_by_itself streams statement).row ≡ outcome.rows))

  in_stream_due : (outcome : Outcome) → RowsDue outcome → RowsDue (in_stream name outcome)
  in_stream_due outcome due = by_test (name.stream.0 == 0)
    where
      by_test : (b : Bool) → RowsDue (if b then told_alone (Refused (IllegalValue stream_key)) else outcome)
      by_test true = inl refl
      by_test false = due

  begins_due : (present : Option Transaction) → RowsDue (begins_beside streams.transactions name.conn.0 present)
  begins_due (Some transaction) = inl refl
  begins_due None =
      by_tests (nat_le max_transactions_of_connection (length (of_connection name.conn.0 streams.transactions))) (nat_le max_transactions (length streams.transactions))
    where
      by_tests : (of_this of_all : Bool)
          → RowsDue (if of_this then told_alone (Refused AllOfConnectionOpen) else if of_all then told_alone (Refused AllTransactionsOpen)
          else record { reply = Empty; rows = []; becomes = Opens })
      by_tests true of_all = inl refl
      by_tests false true = inl refl
      by_tests false false = inl refl

  rows_due : (one : Transaction) → transaction_named name streams.transactions ≡ Some one → (rows : List Row) → RowsDue (commits_rows streams rows)
  rows_due one present [] = inl refl
  rows_due one present (row ∷ rows) = by_tests (not (streams.base.ids.me == writable_node)) (nat_lt max_lsn _)
    where
      by_tests : (refuses above : Bool)
          → RowsDue (if refuses then ends_told (Refused (ReadOnly (record { 0 = writable_node }))) else if above then ends_told (Refused LsnsUsedUp)
          else record { reply = Empty; rows = row ∷ rows; becomes = Ends })
      by_tests true above = inl refl
      by_tests false true = inl refl
      by_tests false false = inr (inl (refl, one, present))

  commits_due : (found : Option Transaction) → transaction_named name streams.transactions ≡ found → RowsDue (commits streams found)
  commits_due None present = inl refl
  commits_due (Some transaction) present = by_standing (standing streams.base.ids streams.base.state streams.journal false transaction)
    where
      by_standing : (how : Standing) → RowsDue (commits_standing streams transaction how)
      by_standing Active = rows_due transaction present _
      by_standing (View place) = rows_due transaction present _
      by_standing Doomed = inl refl

  alone_due : (statement : Statement) → statement_of asked ≡ Some statement → transaction_named name streams.transactions ≡ None → RowsDue (states_alone streams statement)
  alone_due statement is none = by_row answer.row refl
    where
      answer : Answer
      answer = answer_by_itself streams statement

      last : ℕ
      last = slice_index (clock_after streams.base.clock streams.journal) streams.base.ids.me + 1

      by_test : (b : Bool) → RowsDue (states_alone_by streams (if b then refusal_after answer.reads LsnsUsedUp else answer))
      by_test true = inl refl
      by_test false = inr (inr (statement, (is, none), refl))

      by_row : (found : Option Row) → answer.row ≡ found → RowsDue (states_alone_by streams (with_lsn last answer found))
      by_row None same = inr (inr (statement, (is, none), refl))
      by_row (Some row) same = by_test (nat_lt max_lsn last)

  states_due : (statement : Statement) → statement_of asked ≡ Some statement → (found : Option Transaction) → transaction_named name streams.transactions ≡ found
      → RowsDue (states streams found statement)
  states_due statement is None present = alone_due statement is present
  states_due statement is (Some transaction) present = by_test (writes statement.operation && describes_schema statement.space)
    where
      answer : Answer
      answer = answer_alone streams.base.ids (state_read streams transaction) statement (statements_in transaction.steps)

      by_standing : (how : Standing) → RowsDue (states_standing streams statement answer how)
      by_standing Active = inl refl
      by_standing (View place) = inl refl
      by_standing Doomed = inl refl

      by_test : (b : Bool) → RowsDue (if b then told_alone (Refused (Unsupported SchemaInTransaction))
          else states_standing streams statement answer (standing streams.base.ids streams.base.state streams.journal (writes statement.operation) transaction))
      by_test true = inl refl
      by_test false = by_standing (standing streams.base.ids streams.base.state streams.journal (writes statement.operation) transaction)

  tells_due : (statement : Option Statement) → statement_of asked ≡ statement → RowsDue (tells_statement streams name asked statement)
  tells_due None is = inl refl
  tells_due (Some statement) is = states_due statement is (transaction_named name streams.transactions) refl

pub outcome_due : (streams : Streams) (name : TxnName) (asked : Request) → RowsDue streams name asked (outcome_of streams name asked)
outcome_due streams name request.Begin = in_stream_due streams name request.Begin _ (begins_due streams name request.Begin (transaction_named name streams.transactions))
outcome_due streams name request.Commit = in_stream_due streams name request.Commit _ (commits_due streams name request.Commit (transaction_named name streams.transactions) refl)
outcome_due streams name request.Rollback = in_stream_due streams name request.Rollback _ (inl refl)
outcome_due streams name other = tells_due streams name other (statement_of other) refl
