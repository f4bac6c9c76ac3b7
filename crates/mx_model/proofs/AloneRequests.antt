-- What each request comes to: a commit of bytes, and a statement that stands alone.
use Rattle.std.proofs.Common.{◌≡◌, inl, inr, ℕ, Bool, true, false, not, ◌&&◌, List, [], ◌∷◌, length, Option, Some, None, refl, sym, ◌∙◌, subst}
use Rattle.std.specs.Prelude.{nat_le, nat_lt, ◌==◌, if◌then◌else◌}
use Rattle.std.specs.Option.{option_map}
use Rattle.mx_vclock.specs.Vclocks.{max_lsn}
use Rattle.mx_base.specs.declared.ids.TxnName.{TxnName}
use Rattle.mx_base.specs.declared.kinds.Unsupported.TheVariants.{SchemaInTransaction}
use Rattle.mx_base.specs.declared.refusal.Refusal.TheVariants.{AllOfConnectionOpen, AllTransactionsOpen, Conflict, IllegalValue, LsnsUsedUp, ReadOnly, Unsupported}
use Rattle.mx_base.specs.Keys.{stream_key}
use Rattle.mx_request.specs.declared.request.Request.{Request}
use Rattle.mx_request.specs.declared.request.Request.TheVariants as request
use Rattle.mx_row.specs.declared.row.Row.{Row}
use Rattle.mx_row.specs.declared.tx.Tx.{Tx}
use Rattle.mx_schema.specs.State.{State}
use Rattle.mx_schema.proofs.AloneLaws.{each_follows}
use Rattle.mx_write.specs.Writable.{describes_schema}
use Rattle.mx_write.specs.Writes.{TupleIsBytes, Write, write_in}
use Rattle.mx_model.specs.declared.ids.Ids.{Ids}
use Rattle.mx_model.specs.declared.reply.Reply.{Reply}
use Rattle.mx_model.specs.declared.reply.Reply.TheVariants.{Empty, Refused}
use Rattle.mx_model.specs.Alone.{AllStandAlone, HaveBytes}
use Rattle.mx_model.specs.Frame.{IsNoSchemaWrite, IsDataStatement, OperationHasBytes}
use Rattle.mx_model.specs.Bases.{CanBeAsked, writable_node}
use Rattle.mx_model.specs.Overlaps.{Active, Doomed, Standing, Transaction, View, standing, statements_in}
use Rattle.mx_model.specs.RunAlone.{run_alone, statement_answer, writes}
use Rattle.mx_model.specs.Streams.{Ends, Goes, Opens, Outcome, Streams, begins_beside, commits, commits_rows, commits_standing, ends_told, in_stream, max_transactions, max_transactions_of_connection, of_connection, outcome_of, states, states_in, states_standing, tells_statement, told_alone, transaction_named, transaction_with}
use Rattle.mx_model.specs.Transactions.{state_after}
use Rattle.mx_model.specs.statements.Answer.{Answer}
use Rattle.mx_model.specs.statements.Statement.{Operation, Selects, Statement, Writes, statement_of, write_statement}
use Rattle.mx_model.proofs.AloneStreams.{named_has, answer_now, statement_alone, step_now, GoesAlone, IsKept, Stands}
use Rattle.mx_model.proofs.AloneSound.{numbered_bytes, run_bytes, statement_bytes}

module _ (streams : Streams) (name : TxnName) (all : AllStandAlone streams) where
  abbrev ids : Ids
  ids = streams.base.ids

  abbrev base : State
  base = streams.base.state

  abbrev journal : List Tx
  journal = streams.journal

  abbrev Kept : Outcome → Type 0
  Kept outcome = IsKept streams name outcome

  -- ---- BEGIN, COMMIT and ROLLBACK

  in_stream_kept : (outcome : Outcome) → Kept outcome → Kept (in_stream name outcome)
  in_stream_kept outcome kept = by_test (name.stream.0 == 0)
    where
      by_test : (b : Bool) → Kept (if b then told_alone (Refused (IllegalValue stream_key)) else outcome)
      by_test true = (tt, tt)
      by_test false = kept

  begins_kept : (present : Option Transaction) → Kept (begins_beside streams.transactions name.conn.0 present)
  begins_kept (Some transaction) = (tt, tt)
  begins_kept None =
      by_tests (nat_le max_transactions_of_connection (length (of_connection name.conn.0 streams.transactions))) (nat_le max_transactions (length streams.transactions))
    where
      by_tests : (of_this of_all : Bool)
          → Kept (if of_this then told_alone (Refused AllOfConnectionOpen) else if of_all then told_alone (Refused AllTransactionsOpen)
          else record { reply = Empty; rows = []; becomes = Opens })
      by_tests true of_all = (tt, tt)
      by_tests false true = (tt, tt)
      by_tests false false = (tt, tt)

  rows_kept : (rows : List Row) → HaveBytes rows → Kept (commits_rows streams rows)
  rows_kept [] bytes = (tt, tt)
  rows_kept (row ∷ rows) bytes = by_tests (not (ids.me == writable_node)) (nat_lt max_lsn _)
    where
      by_tests : (refuses above : Bool)
          → Kept (if refuses then ends_told (Refused (ReadOnly (record { 0 = writable_node }))) else if above then ends_told (Refused LsnsUsedUp)
          else record { reply = Empty; rows = row ∷ rows; becomes = Ends })
      by_tests true above = (tt, tt)
      by_tests false true = (tt, tt)
      by_tests false false = (bytes, tt)

  commits_kept : (present : Option Transaction) → transaction_named name streams.transactions ≡ present → Kept (commits streams present)
  commits_kept None is = (tt, tt)
  commits_kept (Some transaction) is = by_standing (standing ids base journal false transaction)
    where
      alone : Stands streams transaction
      alone = named_has (Stands streams) name streams.transactions transaction all.each is

      rows : (place : State) → Kept (commits_rows streams (run_alone ids place (statements_in transaction.steps)).rows)
      rows place =
          let statements = statements_in transaction.steps in
          rows_kept (run_alone ids place statements).rows (run_bytes ids place statements (each_follows IsDataStatement _ (λ statement plain. plain.1) statements alone.plain))

      by_standing : (how : Standing) → Kept (commits_standing streams transaction how)
      by_standing Active = rows _
      by_standing (View place) = rows _
      by_standing Doomed = (tt, tt)

  -- ---- statements

  goes_on : (statement : Statement) (transaction : Transaction) → transaction_named name streams.transactions ≡ Some transaction → IsDataStatement statement
      → Kept (states_standing streams statement (answer_now ids base journal transaction statement) (standing ids base journal (writes statement.operation) transaction))
  goes_on statement transaction is plain = by_standing (standing ids base journal (writes statement.operation) transaction) refl
    where
      alone : Stands streams transaction
      alone = named_has (Stands streams) name streams.transactions transaction all.each is

      answer : Answer
      answer = answer_now ids base journal transaction statement

      -- the step is that of the transaction of this name
      goes : (reply : Reply) → Stands streams (transaction_with (step_now ids base journal transaction statement reply) transaction)
          → GoesAlone streams name (Goes (step_now ids base journal transaction statement reply))
      goes reply stands other named =
          let both : Some transaction ≡ Some other = sym is ∙ named in
          let same : transaction ≡ other = cc in
          subst (λ (one : Transaction). Stands streams (transaction_with (step_now ids base journal transaction statement reply) one)) same stands

      by_standing : (how : Standing) → standing ids base journal (writes statement.operation) transaction ≡ how → Kept (states_standing streams statement answer how)
      by_standing Active how = (tt, goes answer.reply (statement_alone ids base journal transaction statement alone plain answer.reply (inl refl) (λ still. refl)))
      by_standing (View place) how = (tt, goes answer.reply (statement_alone ids base journal transaction statement alone plain answer.reply (inl refl) (λ still. refl)))
      by_standing Doomed how =
          (tt, goes (Refused Conflict) (statement_alone ids base journal transaction statement alone plain (Refused Conflict) (inr refl) (λ still. absurd (still how))))

  no_schema_write : (space : ℕ) (operation : Operation) → (writes operation && describes_schema space) ≡ false → IsNoSchemaWrite space operation
  no_schema_write space (Selects index limit offset iterator key) test = tt
  no_schema_write space (Writes write) test = test

  states_in_kept : (statement : Statement) (transaction : Transaction) → transaction_named name streams.transactions ≡ Some transaction → OperationHasBytes statement.operation
      → Kept (states_in streams transaction statement)
  states_in_kept statement transaction is bytes = by_test (writes statement.operation && describes_schema statement.space) refl
    where
      by_test : (b : Bool) → (writes statement.operation && describes_schema statement.space) ≡ b
          → Kept (if b then told_alone (Refused (Unsupported SchemaInTransaction))
          else states_standing streams statement (answer_now ids base journal transaction statement) (standing ids base journal (writes statement.operation) transaction))
      by_test true test = (tt, tt)
      by_test false test = goes_on statement transaction is (no_schema_write statement.space statement.operation test, bytes)

  states_kept : (statement : Statement) → OperationHasBytes statement.operation → (present : Option Transaction) → transaction_named name streams.transactions ≡ present
      → Kept (states streams present statement)
  states_kept statement bytes None is =
      let answer = statement_answer ids (state_after base journal) statement in
      (numbered_bytes _ answer answer.row (statement_bytes ids (state_after base journal) statement bytes), tt)
  states_kept statement bytes (Some transaction) is = states_in_kept statement transaction is bytes

  tells_kept : (asked : Request) (statement : Option Statement) → statement_of asked ≡ statement → ((one : Statement) → statement_of asked ≡ Some one → OperationHasBytes one.operation)
      → Kept (tells_statement streams name asked statement)
  tells_kept asked None is bytes = (tt, tt)
  tells_kept asked (Some statement) is bytes = states_kept statement (bytes statement is) (transaction_named name streams.transactions) refl

  -- ---- requests

  write_bytes : (found : Option (ℕ × Write)) → TupleIsBytes found → (statement : Statement) → option_map write_statement found ≡ Some statement → OperationHasBytes statement.operation
  write_bytes None bytes statement is = absurd cc
  write_bytes (Some (space, write)) bytes statement is =
      let same : write_statement (space, write) ≡ statement = cc in subst (λ (one : Statement). OperationHasBytes one.operation) same bytes

  asked_bytes : (asked : Request) → TupleIsBytes (write_in asked) → (statement : Statement) → statement_of asked ≡ Some statement → OperationHasBytes statement.operation
  asked_bytes (request.Select space index limit offset iterator key) bytes statement is =
      let same : ◌≡◌ {A = Statement} (record { space = space.0; operation = Selects index.0 limit offset iterator key }) statement = cc in
      subst (λ (one : Statement). OperationHasBytes one.operation) same tt
  asked_bytes other bytes statement is = write_bytes (write_in other) bytes statement is

  pub outcome_kept : (asked : Request) → CanBeAsked asked → Kept (outcome_of streams name asked)
  outcome_kept request.Begin can = in_stream_kept _ (begins_kept (transaction_named name streams.transactions))
  outcome_kept request.Commit can = in_stream_kept _ (commits_kept (transaction_named name streams.transactions) refl)
  outcome_kept request.Rollback can = in_stream_kept _ (tt, tt)
  outcome_kept other can = tells_kept other (statement_of other) refl (asked_bytes other can.1)
