-- A request begins a transaction exactly where BEGIN is told that it did, and then none of its name is open.
use Rattle.std.proofs.Common.{Bool, List, None, Option, Some, [], false, length, not, refl, true, ◌≡◌, ◌∷◌}
use Rattle.std.specs.Prelude.{nat_le, nat_lt, ⊤, if◌then◌else◌, ◌==◌, ◌&&◌}
use Rattle.mx_base.specs.Keys.{stream_key}
use Rattle.mx_base.specs.declared.ids.TxnName.{TxnName}
use Rattle.mx_base.specs.declared.kinds.Unsupported.TheVariants.{SchemaInTransaction}
use Rattle.mx_base.specs.declared.refusal.Refusal.TheVariants.{AllOfConnectionOpen, AllTransactionsOpen, IllegalValue, LsnsUsedUp, ReadOnly, Unsupported}
use Rattle.mx_model.specs.Bases.{writable_node}
use Rattle.mx_model.specs.Overlaps.{Active, Doomed, Standing, Transaction, View, standing, statements_in}
use Rattle.mx_model.specs.RunAlone.{run_alone, writes}
use Rattle.mx_model.specs.StreamHistories.{Requested, begun_by}
use Rattle.mx_model.specs.Streams.{Becomes, Ends, Goes, Opens, Outcome, Stays, Streams, begins_beside, commits, commits_rows, commits_standing, ends_told, in_stream, max_transactions, max_transactions_of_connection, of_connection, outcome_of, state_read, states, states_standing, tells_statement, told_alone, transaction_named}
use Rattle.mx_model.specs.declared.reply.Reply.{Reply}
use Rattle.mx_model.specs.declared.reply.Reply.TheVariants.{Empty, Refused}
use Rattle.mx_model.specs.statements.Answer.{Answer}
use Rattle.mx_model.specs.statements.Statement.{Statement, statement_of}
use Rattle.mx_request.specs.declared.request.Request.{Request}
use Rattle.mx_row.specs.declared.row.Row.{Row}
use Rattle.mx_vclock.specs.Vclocks.{max_lsn}
use Rattle.mx_write.specs.Writable.{describes_schema}
use Rattle.mx_model.proofs.AloneStreams.{answer_now}
use Rattle.mx_request.specs.declared.request.Request.TheVariants as request

module _ (streams : Streams) (name : TxnName) where
  -- an outcome begins a transaction where BEGIN is told so, and then none of the name is open
  abbrev pub Begins : Request → Reply → Becomes → Type 0
  Begins asked reply Opens = (transaction_named name streams.transactions ≡ None) × (begun_by (Requested name asked reply) ≡ 1)
  Begins asked reply other = begun_by (Requested name asked reply) ≡ 0

  abbrev IsBegun : Request → Outcome → Type 0
  IsBegun asked outcome = Begins asked outcome.reply outcome.becomes

  begins_begun : (present : Option Transaction) → transaction_named name streams.transactions ≡ present → IsBegun request.Begin (begins_beside streams.transactions name.conn.0 present)
  begins_begun (Some transaction) is = refl
  begins_begun None is =
      by_tests (nat_le max_transactions_of_connection (length (of_connection name.conn.0 streams.transactions))) (nat_le max_transactions (length streams.transactions))
    where
      by_tests : (of_this of_all : Bool)
          → IsBegun request.Begin (if of_this then told_alone (Refused AllOfConnectionOpen) else if of_all then told_alone (Refused AllTransactionsOpen)
          else record { reply = Empty; rows = []; becomes = Opens })
      by_tests true of_all = refl
      by_tests false true = refl
      by_tests false false = (is, refl)

  begin_begun : IsBegun request.Begin (outcome_of streams name request.Begin)
  begin_begun = by_test (name.stream.0 == 0)
    where
      by_test : (b : Bool)
          → IsBegun request.Begin (if b then told_alone (Refused (IllegalValue stream_key)) else begins_beside streams.transactions name.conn.0 (transaction_named name streams.transactions))
      by_test true = refl
      by_test false = begins_begun (transaction_named name streams.transactions) refl

  -- what doesn't begin one
  abbrev OpensNone : Becomes → Type 0
  OpensNone Opens = ⊥
  OpensNone other = ⊤

  in_stream_none : (outcome : Outcome) → OpensNone outcome.becomes → OpensNone (in_stream name outcome).becomes
  in_stream_none outcome none = by_test (name.stream.0 == 0)
    where
      by_test : (b : Bool) → OpensNone (if b then told_alone (Refused (IllegalValue stream_key)) else outcome).becomes
      by_test true = tt
      by_test false = none

  rows_none : (rows : List Row) → OpensNone (commits_rows streams rows).becomes
  rows_none [] = tt
  rows_none (row ∷ rows) = by_tests (not (streams.base.ids.me == writable_node)) (nat_lt max_lsn _)
    where
      by_tests : (refuses above : Bool)
          → OpensNone (if refuses then ends_told (Refused (ReadOnly (record { 0 = writable_node }))) else if above then ends_told (Refused LsnsUsedUp)
          else record { reply = Empty; rows = row ∷ rows; becomes = Ends }).becomes
      by_tests true above = tt
      by_tests false true = tt
      by_tests false false = tt

  commits_none : (present : Option Transaction) → OpensNone (commits streams present).becomes
  commits_none None = tt
  commits_none (Some transaction) = by_standing (standing streams.base.ids streams.base.state streams.journal false transaction)
    where
      rows : List Row
      rows = (run_alone streams.base.ids (state_read streams transaction) (statements_in transaction.steps)).rows

      by_standing : (how : Standing) → OpensNone (commits_standing streams transaction how).becomes
      by_standing Active = rows_none rows
      by_standing (View place) = rows_none rows
      by_standing Doomed = tt

  states_none : (statement : Statement) (present : Option Transaction) → OpensNone (states streams present statement).becomes
  states_none statement None = tt
  states_none statement (Some transaction) = by_test (writes statement.operation && describes_schema statement.space)
    where
      answer : Answer
      answer = answer_now streams.base.ids streams.base.state streams.journal transaction statement

      by_standing : (how : Standing) → OpensNone (states_standing streams statement answer how).becomes
      by_standing Active = tt
      by_standing (View place) = tt
      by_standing Doomed = tt

      by_test : (b : Bool) → OpensNone (if b then told_alone (Refused (Unsupported SchemaInTransaction))
          else states_standing streams statement answer (standing streams.base.ids streams.base.state streams.journal (writes statement.operation) transaction)).becomes
      by_test true = tt
      by_test false = by_standing (standing streams.base.ids streams.base.state streams.journal (writes statement.operation) transaction)

  tells_none : (asked : Request) (statement : Option Statement) → OpensNone (tells_statement streams name asked statement).becomes
  tells_none asked None = tt
  tells_none asked (Some statement) = states_none statement (transaction_named name streams.transactions)

  begun_none : (asked : Request) (reply : Reply) (becomes : Becomes) → begun_by (Requested name asked reply) ≡ 0 → OpensNone becomes → Begins asked reply becomes
  begun_none asked reply Stays none opens = none
  begun_none asked reply Opens none opens = absurd opens
  begun_none asked reply (Goes step) none opens = none
  begun_none asked reply Ends none opens = none

  pub outcome_begun : (asked : Request) → IsBegun asked (outcome_of streams name asked)
  outcome_begun request.Begin = begin_begun
  outcome_begun request.Commit = begun_none request.Commit (outcome_of streams name request.Commit).reply _ refl (in_stream_none _ (commits_none (transaction_named name streams.transactions)))
  outcome_begun request.Rollback = begun_none request.Rollback (outcome_of streams name request.Rollback).reply _ refl (in_stream_none (ends_told Empty) tt)
  outcome_begun other = begun_none other (outcome_of streams name other).reply (outcome_of streams name other).becomes refl (tells_none other (statement_of other))
