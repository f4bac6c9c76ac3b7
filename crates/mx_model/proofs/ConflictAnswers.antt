-- No statement is told a conflict or out of memory by itself: an open transaction is told a conflict exactly where it is doomed.
use Rattle.std.proofs.Common.{Bool, Err, List, None, Ok, Option, Result, Some, [], ap, false, ne_eqb, not, refl, subst, sym, true, ℕ, ◌≡◌, ◌∷◌, ◌++◌, ◌∙◌}
use Rattle.std.specs.List.{AllByRecursion}
use Rattle.std.specs.Prelude.{nat_lt, ⊤, if◌then◌else◌, ◌≢◌, ◌==◌, ◌&&◌, ◌↔◌}
use Rattle.mx_base.specs.Keys.{stream_key}
use Rattle.mx_base.specs.Refusals.{code_of}
use Rattle.mx_base.specs.declared.ids.TxnName.{TxnName}
use Rattle.mx_base.specs.declared.kinds.Unsupported.TheVariants.{HashIterator, SchemaInTransaction}
use Rattle.mx_base.specs.declared.refusal.Refusal.{Refusal}
use Rattle.mx_base.specs.declared.refusal.Refusal.TheVariants.{Conflict, IllegalValue, LsnsUsedUp, OutOfMemory, ReadOnly, ResultTooLong, TransactionTooLong, Unsupported}
use Rattle.mx_key.specs.Keys.{Key}
use Rattle.mx_key.specs.Ranges.{range_of}
use Rattle.mx_key.specs.declared.fault.Misfit.{Misfit}
use Rattle.mx_key.specs.declared.fault.Misfit.TheVariants.{TooLong, WrongPart}
use Rattle.mx_key.specs.declared.iterator.IterKind.{IterKind}
use Rattle.mx_model.specs.Answers.{answer_in_space}
use Rattle.mx_model.specs.Bases.{is_out_of_memory, writable_node}
use Rattle.mx_model.specs.Overlaps.{Active, Doomed, Standing, Transaction, View, standing, statements_in}
use Rattle.mx_row.specs.Limits.{has_room}
use Rattle.mx_model.specs.RunAlone.{Run, answer_in_run, run_alone, statement_answer, within_limits, writes, answer_alone}
use Rattle.mx_model.specs.Streams.{Ends, Outcome, Streams, commits, commits_rows, commits_standing, ends_told, outcome_of, state_read, states, states_standing, tells_statement, told_alone, transaction_named, Goes, step_of}
use Rattle.mx_model.specs.declared.ids.Ids.{Ids}
use Rattle.mx_model.specs.declared.reply.Reply.{Reply}
use Rattle.mx_model.specs.declared.reply.Reply.TheVariants.{Empty, Refused}
use Rattle.mx_model.specs.statements.Answer.{Answer, refusal_after, refusal_alone, tuples_after}
use Rattle.mx_model.specs.statements.Lookup.{in_def, in_schema}
use Rattle.mx_model.specs.statements.Select.{asked_key, iterator_of, part_count, range_reads, select_answer, select_answer_in, select_by_key, select_found, select_in_index, takes_iterator}
use Rattle.mx_model.specs.statements.Statement.{Operation, Selects, Statement, Writes, statement_of}
use Rattle.mx_model.specs.statements.Write.{answer_of_outcome}
use Rattle.mx_request.specs.declared.request.Request.{Request}
use Rattle.mx_row.specs.declared.row.Row.{Row}
use Rattle.mx_schema.specs.Catalogues.{index_with, schema_of}
use Rattle.mx_schema.specs.Picks.{Selection, entries_of, max_result_size, pick, total_bytes}
use Rattle.mx_schema.specs.State.{State, source_of}
use Rattle.mx_schema.specs.declared.index_def.IndexDef.{IndexDef}
use Rattle.mx_schema.specs.declared.schema.Schema.{Schema}
use Rattle.mx_vclock.specs.Vclocks.{max_lsn}
use Rattle.mx_write.specs.Judge.{judged_write}
use Rattle.mx_write.specs.Made.{Made}
use Rattle.mx_write.specs.Reads.{schema_reads}
use Rattle.mx_write.specs.Writable.{describes_schema}
use Rattle.mx_write.specs.declared.writable.Writer.TheVariants.{Client}
use Rattle.mx_model.proofs.ConflictStages.{EndsOther, is_reserved}
use Rattle.mx_model.proofs.ConflictWrites.{write_other}
use Rattle.mx_request.specs.declared.request.Request.TheVariants as request

-- the refusals that no statement comes to by itself
abbrev pub is_conflict_or_lack : Refusal → Bool
is_conflict_or_lack Conflict = true
is_conflict_or_lack OutOfMemory = true
is_conflict_or_lack other = false

-- a reply is no conflict, and not out of memory
abbrev pub TellsOther : Reply → Type 0
TellsOther (Refused why) = is_conflict_or_lack why ≡ false
TellsOther other = ⊤

-- nor is it a refusal as read-only, or for want of an lsn
abbrev pub TellsOwn : Reply → Type 0
TellsOwn (Refused why) = is_reserved why ≡ false
TellsOwn other = ⊤

pub own_other : (reply : Reply) → TellsOwn reply → TellsOther reply
own_other (Refused why) own = by_refusal why own
  where
    by_refusal : (why : Refusal) → is_reserved why ≡ false → is_conflict_or_lack why ≡ false
    by_refusal Conflict own = absurd cc
    by_refusal OutOfMemory own = absurd cc
    by_refusal why own = refl
own_other reply own = tt

pub tells_no_conflict : (reply : Reply) → TellsOther reply → reply ≡ Refused Conflict → ⊥
tells_no_conflict reply other is = let wrong : true ≡ false = subst TellsOther is other in absurd cc

pub tells_memory : (reply : Reply) → TellsOther reply → is_out_of_memory reply ≡ false
tells_memory (Refused why) other = by_refusal why other
  where
    by_refusal : (why : Refusal) → is_conflict_or_lack why ≡ false → (code_of why == code_of OutOfMemory) ≡ false
    by_refusal Conflict other = absurd cc
    by_refusal OutOfMemory other = absurd cc
    by_refusal why other = refl
tells_memory reply other = refl

-- ---- one statement

select_own : (before : State) (space index limit offset : ℕ) (iterator : IterKind) (key : List ℕ) → TellsOwn (select_answer_in before space index limit offset iterator key).reply
select_own before space index limit offset iterator key = by_schema (schema_of before space)
  where
    by_found : (def : IndexDef) (asked : Key) (found : Selection) → TellsOwn (select_found space (source_of space) def.id.0 (range_of iterator asked) found).reply
    by_found def asked found = by_test (nat_lt max_result_size (total_bytes found.tuples))
      where
        by_test : (b : Bool) → TellsOwn
            (if b then refusal_after (schema_reads space ++ range_reads (source_of space) def.id.0 (Some (range_of iterator asked))) ResultTooLong
            else tuples_after (schema_reads space ++ range_reads (source_of space) def.id.0 found.read) found.tuples).reply
        by_test true = refl
        by_test false = tt

    by_key : (def : IndexDef) (asked : Result Key Misfit) → TellsOwn (select_by_key before space limit offset iterator def asked).reply
    by_key def (Err (TooLong given)) = refl
    by_key def (Err (WrongPart part expected)) = refl
    by_key def (Ok asked) = by_found def asked (pick (entries_of before space def) iterator asked offset limit)

    by_def : (schema : Schema) (def : Option IndexDef) → TellsOwn (in_def space schema index def (select_in_index before space limit offset iterator key)).reply
    by_def schema None = refl
    by_def schema (Some def) = by_test (takes_iterator def.kind iterator (part_count key))
      where
        by_test : (taken : Bool) → TellsOwn
            (if taken then select_by_key before space limit offset iterator def (asked_key def key) else refusal_after (schema_reads space) (Unsupported HashIterator)).reply
        by_test true = by_key def (asked_key def key)
        by_test false = refl

    by_schema : (schema : Option Schema) → TellsOwn (in_schema space schema (select_answer before space index limit offset iterator key)).reply
    by_schema None = refl
    by_schema (Some schema) = by_def schema (index_with index schema.indexes)

pub operation_own : (before : State) (space : ℕ) (operation : Operation) → TellsOwn (answer_in_space before space operation).reply
operation_own before space (Selects index limit offset iterator key) = select_own before space index limit offset (iterator_of iterator) key
operation_own before space (Writes write) = by_outcome (judged_write Client before space write).outcome (write_other before space write)
  where
    by_outcome : (outcome : Result Made Refusal) → EndsOther outcome → TellsOwn (answer_of_outcome (judged_write Client before space write).reads outcome).reply
    by_outcome (Ok is) other = tt
    by_outcome (Err why) other = other

pub statement_other : (ids : Ids) (before : State) (statement : Statement) → TellsOther (statement_answer ids before statement).reply
statement_other ids before statement = by_test (writes statement.operation && not (ids.me == writable_node))
  where
    by_test : (refuses : Bool)
        → TellsOther (if refuses then refusal_alone (ReadOnly (record { 0 = writable_node })) else answer_in_space before statement.space statement.operation).reply
    by_test true = refl
    by_test false = own_other (answer_in_space before statement.space statement.operation).reply (operation_own before statement.space statement.operation)

-- where the node takes it
pub statement_own : (ids : Ids) (before : State) (statement : Statement) → (writes statement.operation && not (ids.me == writable_node)) ≡ false
    → TellsOwn (statement_answer ids before statement).reply
statement_own ids before statement taken =
    subst (λ (refuses : Bool). TellsOwn (if refuses then refusal_alone (ReadOnly (record { 0 = writable_node })) else answer_in_space before statement.space statement.operation).reply)
    (sym taken) (operation_own before statement.space statement.operation)

-- ---- in a transaction that runs alone

limited_other : (rows : List Row) (answer : Answer) (row : Option Row) → TellsOther answer.reply → TellsOther (within_limits rows answer row).reply
limited_other rows answer None other = other
limited_other rows answer (Some row) other = by_test (has_room rows row)
  where
    by_test : (room : Bool) → TellsOther (if room then answer else refusal_after answer.reads TransactionTooLong).reply
    by_test true = other
    by_test false = refl

-- a further statement
pub further_other : (ids : Ids) (run : Run) (statement : Statement) → TellsOther (answer_in_run ids run statement).reply
further_other ids run statement =
    let answer = statement_answer ids run.state statement in limited_other run.rows answer answer.row (statement_other ids run.state statement)

-- where the node takes it
pub further_own : (ids : Ids) (run : Run) (statement : Statement) → (writes statement.operation && not (ids.me == writable_node)) ≡ false
    → TellsOwn (answer_in_run ids run statement).reply
further_own ids run statement taken = by_row answer.row
  where
    answer : Answer
    answer = statement_answer ids run.state statement

    own : TellsOwn answer.reply
    own = statement_own ids run.state statement taken

    by_room : (room : Bool) → TellsOwn (if room then answer else refusal_after answer.reads TransactionTooLong).reply
    by_room true = own
    by_room false = refl

    by_row : (row : Option Row) → TellsOwn (within_limits run.rows answer row).reply
    by_row None = own
    by_row (Some row) = by_room (has_room run.rows row)

-- and all of them
pub run_other : (ids : Ids) (before : State) (statements : List Statement)
    → AllByRecursion (λ (answer : Answer). TellsOther answer.reply) (run_alone ids before statements).answers
unfolding run_alone
run_other ids before [] = tt
run_other ids before (statement ∷ earlier) = (further_other ids (run_alone ids before earlier) statement, run_other ids before earlier)

-- ---- COMMIT, and a statement of an open transaction

pub rows_other : (streams : Streams) (rows : List Row) → TellsOther (commits_rows streams rows).reply
rows_other streams [] = tt
rows_other streams (row ∷ rows) = by_tests (not (streams.base.ids.me == writable_node)) (nat_lt max_lsn _)
  where
    by_tests : (refuses above : Bool)
        → TellsOther (if refuses then ends_told (Refused (ReadOnly (record { 0 = writable_node }))) else if above then ends_told (Refused LsnsUsedUp)
        else record { reply = Empty; rows = row ∷ rows; becomes = Ends }).reply
    by_tests true above = refl
    by_tests false true = refl
    by_tests false false = tt

module _ (streams : Streams) (name : TxnName) (transaction : Transaction) (named : transaction_named name streams.transactions ≡ Some transaction) where
  abbrev stands : (is_write : Bool) → Standing
  stands is_write = standing streams.base.ids streams.base.state streams.journal is_write transaction

  -- by how it stands
  pub commit_by : (how : Standing) → ((commits_standing streams transaction how).reply ≡ Refused Conflict) ↔ (how ≡ Doomed)
  commit_by Active = (λ told. absurd (tells_no_conflict _ (rows_other streams _) told), λ doomed. absurd cc)
  commit_by (View place) = (λ told. absurd (tells_no_conflict _ (rows_other streams _) told), λ doomed. absurd cc)
  commit_by Doomed = (λ told. refl, λ doomed. refl)

  pub commit_told : name.stream.0 ≢ 0 → ((outcome_of streams name request.Commit).reply ≡ Refused Conflict) ↔ (stands false ≡ Doomed)
  commit_told in_one =
      subst (λ (outcome : Outcome). (outcome.reply ≡ Refused Conflict) ↔ (stands false ≡ Doomed)) (sym outcome_is) (commit_by (stands false))
    where
      outcome_is : outcome_of streams name request.Commit ≡ commits_standing streams transaction (stands false)
      outcome_is =
          ap (λ (b : Bool). if b then told_alone (Refused (IllegalValue stream_key)) else commits streams (transaction_named name streams.transactions)) (ne_eqb name.stream.0 0 in_one)
          ∙ ap (commits streams) named

  statement_by : (statement : Statement) (answer : Answer) (how : Standing) → TellsOther answer.reply
      → ((states_standing streams statement answer how).reply ≡ Refused Conflict) ↔ (how ≡ Doomed)
  statement_by statement answer Active other = (λ told. absurd (tells_no_conflict _ other told), λ doomed. absurd cc)
  statement_by statement answer (View place) other = (λ told. absurd (tells_no_conflict _ other told), λ doomed. absurd cc)
  statement_by statement answer Doomed other = (λ told. refl, λ doomed. refl)

  kept_by : (statement : Statement) (answer : Answer) (how : Standing)
      → (states_standing streams statement answer how).becomes ≡ Goes (step_of streams statement answer (states_standing streams statement answer how).reply)
  kept_by statement answer Active = refl
  kept_by statement answer (View place) = refl
  kept_by statement answer Doomed = refl

  module _ (asked : Request) (statement : Statement) (is : statement_of asked ≡ Some statement) (plain : (writes statement.operation && describes_schema statement.space) ≡ false) where
    abbrev run : Run
    run = run_alone streams.base.ids (state_read streams transaction) (statements_in transaction.steps)

    abbrev answer : Answer
    answer = answer_in_run streams.base.ids run statement

    states_as : (one : Request) → statement_of one ≡ Some statement → outcome_of streams name one ≡ tells_statement streams name one (statement_of one)
    states_as request.Begin is = absurd cc
    states_as request.Commit is = absurd cc
    states_as request.Rollback is = absurd cc
    states_as other is = refl

    outcome_is : outcome_of streams name asked ≡ states_standing streams statement answer (stands (writes statement.operation))
    outcome_is =
        states_as asked is
        ∙ ap (tells_statement streams name asked) is
        ∙ ap (λ present. states streams present statement) named
        ∙ ap (λ (b : Bool). if b then told_alone (Refused (Unsupported SchemaInTransaction)) else states_standing streams statement answer (stands (writes statement.operation))) plain

    pub statement_told : ((outcome_of streams name asked).reply ≡ Refused Conflict) ↔ (stands (writes statement.operation) ≡ Doomed)
    statement_told =
        subst (λ (outcome : Outcome). (outcome.reply ≡ Refused Conflict) ↔ (stands (writes statement.operation) ≡ Doomed)) (sym outcome_is)
        (statement_by statement answer (stands (writes statement.operation)) (further_other streams.base.ids run statement))

    -- the transaction keeps it with what it was told
    pub statement_kept : (outcome_of streams name asked).becomes
        ≡ Goes (step_of streams statement (answer_alone streams.base.ids (state_read streams transaction) statement (statements_in transaction.steps)) (outcome_of streams name asked).reply)
    statement_kept =
        subst (λ (outcome : Outcome). outcome.becomes ≡ Goes (step_of streams statement answer outcome.reply)) (sym outcome_is)
        (kept_by statement answer (stands (writes statement.operation)))
