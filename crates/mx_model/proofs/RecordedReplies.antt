-- An outcome that is recorded with the reply that it demands is that outcome: a statement that its transaction goes on with has its reply.
use Rattle.std.proofs.Common.{◌≡◌, inl, inr, Bool, true, false, not, ◌&&◌, List, [], ◌∷◌, length, Option, Some, None, refl, sym, ap, ◌∙◌}
use Rattle.std.specs.Prelude.{nat_le, nat_lt, ◌==◌, if◌then◌else◌}
use Rattle.mx_base.specs.Keys.{stream_key}
use Rattle.mx_base.specs.declared.ids.TxnName.{TxnName}
use Rattle.mx_base.specs.declared.kinds.Unsupported.TheVariants.{SchemaInTransaction}
use Rattle.mx_base.specs.declared.refusal.Refusal.TheVariants.{AllOfConnectionOpen, AllTransactionsOpen, IllegalValue, LsnsUsedUp, ReadOnly, Unsupported}
use Rattle.mx_request.specs.declared.request.Request.{Request}
use Rattle.mx_request.specs.declared.request.Request.TheVariants as request
use Rattle.mx_row.specs.declared.row.Row.{Row}
use Rattle.mx_vclock.specs.Vclocks.{max_lsn}
use Rattle.mx_write.specs.Writable.{describes_schema}
use Rattle.mx_model.specs.declared.reply.Reply.{Reply}
use Rattle.mx_model.specs.declared.reply.Reply.TheVariants.{Empty, Refused}
use Rattle.mx_model.specs.Bases.{is_out_of_memory, writable_node}
use Rattle.mx_model.specs.Overlaps.{Active, Doomed, Standing, Transaction, View, standing, statements_in}
use Rattle.mx_model.specs.RunAlone.{answer_alone, writes}
use Rattle.mx_model.specs.Streams.{Becomes, Ends, IsTold, Opens, Outcome, Streams, becomes_told, begins_beside, commits, commits_rows, commits_standing, ends_told, in_stream, max_transactions, max_transactions_of_connection, of_connection, outcome_of, state_read, states, states_standing, tells_statement, told_alone, told_as, transaction_named}
use Rattle.mx_model.specs.statements.Answer.{Answer}
use Rattle.mx_model.specs.statements.Statement.{Statement, statement_of}

module _ (streams : Streams) (name : TxnName) where
  -- what becomes of the transaction has the outcome's reply
  abbrev IsRecorded : Outcome → Type 0
  IsRecorded outcome = becomes_told outcome.reply outcome.becomes ≡ outcome.becomes

  in_stream_recorded : (outcome : Outcome) → IsRecorded outcome → IsRecorded (in_stream name outcome)
  in_stream_recorded outcome recorded = by_test (name.stream.0 == 0)
    where
      by_test : (b : Bool) → IsRecorded (if b then told_alone (Refused (IllegalValue stream_key)) else outcome)
      by_test true = refl
      by_test false = recorded

  begins_recorded : (present : Option Transaction) → IsRecorded (begins_beside streams.transactions name.conn.0 present)
  begins_recorded (Some transaction) = refl
  begins_recorded None =
      by_tests (nat_le max_transactions_of_connection (length (of_connection name.conn.0 streams.transactions))) (nat_le max_transactions (length streams.transactions))
    where
      by_tests : (of_this of_all : Bool)
          → IsRecorded (if of_this then told_alone (Refused AllOfConnectionOpen) else if of_all then told_alone (Refused AllTransactionsOpen)
          else record { reply = Empty; rows = []; becomes = Opens })
      by_tests true of_all = refl
      by_tests false true = refl
      by_tests false false = refl

  rows_recorded : (rows : List Row) → IsRecorded (commits_rows streams rows)
  rows_recorded [] = refl
  rows_recorded (row ∷ rows) = by_tests (not (streams.base.ids.me == writable_node)) (nat_lt max_lsn _)
    where
      by_tests : (refuses above : Bool)
          → IsRecorded (if refuses then ends_told (Refused (ReadOnly (record { 0 = writable_node }))) else if above then ends_told (Refused LsnsUsedUp)
          else record { reply = Empty; rows = row ∷ rows; becomes = Ends })
      by_tests true above = refl
      by_tests false true = refl
      by_tests false false = refl

  commits_recorded : (present : Option Transaction) → IsRecorded (commits streams present)
  commits_recorded None = refl
  commits_recorded (Some transaction) = by_standing (standing streams.base.ids streams.base.state streams.journal false transaction)
    where
      by_standing : (how : Standing) → IsRecorded (commits_standing streams transaction how)
      by_standing Active = rows_recorded _
      by_standing (View place) = rows_recorded _
      by_standing Doomed = refl

  states_recorded : (statement : Statement) (present : Option Transaction) → IsRecorded (states streams present statement)
  states_recorded statement None = refl
  states_recorded statement (Some transaction) = by_test (writes statement.operation && describes_schema statement.space)
    where
      answer : Answer
      answer = answer_alone streams.base.ids (state_read streams transaction) statement (statements_in transaction.steps)

      by_standing : (how : Standing) → IsRecorded (states_standing streams statement answer how)
      by_standing Active = refl
      by_standing (View place) = refl
      by_standing Doomed = refl

      by_test : (b : Bool) → IsRecorded (if b then told_alone (Refused (Unsupported SchemaInTransaction))
          else states_standing streams statement answer (standing streams.base.ids streams.base.state streams.journal (writes statement.operation) transaction))
      by_test true = refl
      by_test false = by_standing (standing streams.base.ids streams.base.state streams.journal (writes statement.operation) transaction)

  tells_recorded : (asked : Request) (statement : Option Statement) → IsRecorded (tells_statement streams name asked statement)
  tells_recorded asked None = refl
  tells_recorded asked (Some statement) = states_recorded statement (transaction_named name streams.transactions)

  becomes_recorded : (asked : Request) → IsRecorded (outcome_of streams name asked)
  becomes_recorded request.Begin = in_stream_recorded _ (begins_recorded (transaction_named name streams.transactions))
  becomes_recorded request.Commit = in_stream_recorded _ (commits_recorded (transaction_named name streams.transactions))
  becomes_recorded request.Rollback = in_stream_recorded (ends_told Empty) refl
  becomes_recorded other = tells_recorded other (statement_of other)

  -- the outcome with its own reply is the outcome
  pub outcome_recorded : (asked : Request) → told_as (outcome_of streams name asked).reply (outcome_of streams name asked) ≡ outcome_of streams name asked
  outcome_recorded asked =
      ap (λ (becomes : Becomes). record { reply = (outcome_of streams name asked).reply; rows = (outcome_of streams name asked).rows; becomes = becomes }) (becomes_recorded asked)

  -- so it is with the reply that is demanded
  pub told_outcome : (asked : Request) (reply : Reply) → reply ≡ (outcome_of streams name asked).reply → told_as reply (outcome_of streams name asked) ≡ outcome_of streams name asked
  told_outcome asked reply told = ap (λ (one : Reply). told_as one (outcome_of streams name asked)) told ∙ outcome_recorded asked

  -- a reply that isn't out of memory is the one that is demanded
  pub told_demanded : (asked : Request) (reply : Reply) → IsTold streams name asked reply → is_out_of_memory reply ≡ false → reply ≡ (outcome_of streams name asked).reply
  told_demanded asked reply (inl told) has = told
  told_demanded asked reply (inr (may, told)) has = let wrong : true ≡ false = sym (ap is_out_of_memory told) ∙ has in absurd cc

  -- so what it comes to is the outcome
  pub told_well : (asked : Request) (reply : Reply) → IsTold streams name asked reply → is_out_of_memory reply ≡ false
      → told_as reply (outcome_of streams name asked) ≡ outcome_of streams name asked
  told_well asked reply told has = told_outcome asked reply (told_demanded asked reply told has)
