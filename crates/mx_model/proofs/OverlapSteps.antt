-- A statement of a transaction's own moves no overlap, and dooms the transaction only where it is overlapped and the statement writes.
use Rattle.std.proofs.Common.{◌≡◌, ℕ, suc, pred, ◌+◌, ◌<◌, ◌≤◌, Bool, true, false, ◌||◌, List, [], ◌∷◌, ◌++◌, length, drop, Option, Some, None, refl, sym, ap, ◌∙◌, arith}
use Rattle.std.specs.Prelude.{nat_le, nat_lt, if◌then◌else◌}
use Rattle.std.specs.Option.{option_to_list}
use Rattle.std.proofs.lemmas.Bool.Decides.{nat_tests}
use Rattle.std.proofs.lemmas.List.{length-drop}
use Rattle.mx_row.specs.declared.row.Row.{Row}
use Rattle.mx_row.specs.declared.tx.Tx.{Tx}
use Rattle.mx_schema.specs.State.{State}
use Rattle.mx_model.specs.declared.ids.Ids.{Ids}
use Rattle.mx_model.specs.Answers.{answer_in_space, state_after_rows}
use Rattle.mx_model.specs.Overlaps.{TransactionStep, Transaction, doomed_or_view, first_overlap, has_row, has_schema_commit_since, has_written_since, is_some_row, overlap_of, reads_before, standing, standing_after_step, standing_by, state_after_first, statements_in}
use Rattle.mx_model.specs.RunAlone.{Run, answer_in_run, run_alone, within_limits, writes}
use Rattle.mx_model.specs.Streams.{transaction_with}
use Rattle.mx_model.specs.Touches.{rows_meet}
use Rattle.mx_model.specs.statements.Answer.{Answer}
use Rattle.mx_model.specs.statements.Select.{iterator_of}
use Rattle.mx_model.specs.statements.Statement.{Operation, Selects, Statement, Writes}
use Rattle.mx_model.proofs.AnswerLaws.{select_no_row}
use Rattle.mx_model.proofs.OverlapFound.{overlap_found}

-- ---- at the statement

-- a statement that doesn't write leaves a transaction as it stands
read_leaves : (doomed : Bool) (place : ℕ) → standing_after_step false (doomed_or_view doomed place) ≡ doomed_or_view doomed place
read_leaves true place = refl
read_leaves false place = refl

-- one that writes dooms what is overlapped
write_dooms : (doomed : Bool) (place : ℕ) → standing_after_step true (doomed_or_view doomed place) ≡ doomed_or_view true place
write_dooms true place = refl
write_dooms false place = refl

doomed_at : (has_row has_written is_write has_schema : Bool) (place : ℕ)
    → doomed_or_view (has_row || has_written || is_write || has_schema) place
    ≡ standing_after_step is_write (doomed_or_view (has_row || has_written || false || has_schema) place)
doomed_at true has_written is_write has_schema place = refl
doomed_at false true is_write has_schema place = refl
doomed_at false false true has_schema place = sym (write_dooms has_schema place)
doomed_at false false false has_schema place = sym (read_leaves has_schema place)

-- how a transaction stands at a statement of its own
pub standing_at : (ids : Ids) (base : State) (journal : List Tx) (is_write : Bool) (transaction : Transaction)
    → standing ids base journal is_write transaction ≡ standing_after_step is_write (standing ids base journal false transaction)
standing_at ids base journal is_write transaction = by_overlap (overlap_of base journal transaction)
  where
    steps : List TransactionStep
    steps = transaction.steps

    by_overlap : (overlap : Option ℕ)
        → standing_by ids base journal is_write steps overlap ≡ standing_after_step is_write (standing_by ids base journal false steps overlap)
    by_overlap None = refl
    by_overlap (Some number) =
        doomed_at (has_row ids base journal (pred number) steps) (has_written_since number steps) is_write (has_schema_commit_since number journal) (pred number)

-- ---- after it

-- reads made behind commits aren't met by these
first_stays : (before : State) (count : ℕ) (later : List Tx) (step : TransactionStep) (steps : List TransactionStep) → (0 < length later → count + length later ≤ step.after)
    → first_overlap before count later (step ∷ steps) ≡ first_overlap before count later steps
first_stays before count [] step steps behind = refl
first_stays before count (commit ∷ later) step steps behind =
    λ i. if rows_meet before commit.rows (reads i) then Some (suc count)
    else first_stays (state_after_rows before commit.rows) (suc count) later step steps (λ _. omega (arith, past)) i
  where
    past : count + suc (length later) ≤ step.after
    past = behind (omega arith)

    made : nat_lt step.after (suc count) ≡ false
    made = let more = past in grind (arith, nat_tests)

    reads : reads_before (suc count) (step ∷ steps) ≡ reads_before (suc count) steps
    reads = ap (λ (b : Bool). (if b then step.reads else []) ++ reads_before (suc count) steps) made

-- a statement made now leaves the commit that overlaps its transaction
pub overlap_stays : (base : State) (journal : List Tx) (step : TransactionStep) (transaction : Transaction) → step.after ≡ length journal
    → overlap_of base journal (transaction_with step transaction) ≡ overlap_of base journal transaction
unfolding overlap_of
overlap_stays base journal step transaction now =
    first_stays (state_after_first base journal transaction.begun) transaction.begun (drop transaction.begun journal) step transaction.steps
    (λ some. let long = length-drop transaction.begun journal in omega (arith, some, long, now))

-- what is no write leaves no row
pub read_no_row : (ids : Ids) (run : Run) (statement : Statement) → writes statement.operation ≡ false → (answer_in_run ids run statement).row ≡ None
read_no_row ids run statement = by_operation statement.operation
  where
    by_answer : (answer : Answer) → answer.row ≡ None → (within_limits run.rows answer answer.row).row ≡ None
    by_answer answer none = ap (λ (row : Option Row). (within_limits run.rows answer row).row) none ∙ none

    by_operation : (operation : Operation) → writes operation ≡ false → (answer_in_run ids run (record { space = statement.space; operation = operation })).row ≡ None
    by_operation (Selects index limit offset iterator key) read =
        by_answer (answer_in_space run.state statement.space (Selects index limit offset iterator key)) (select_no_row run.state statement.space index limit offset (iterator_of iterator) key)
    by_operation (Writes write) read = absurd cc

some_more : (rows more : List Row) → is_some_row (rows ++ more) ≡ (is_some_row rows || is_some_row more)
some_more [] more = refl
some_more (row ∷ rows) more = refl

doomed_after : (has_row leaves_row is_write has_written has_schema : Bool) (place : ℕ) → (is_write ≡ false → leaves_row ≡ false)
    → doomed_or_view ((has_row || leaves_row) || (is_write || has_written) || false || has_schema) place
    ≡ standing_after_step is_write (doomed_or_view (has_row || has_written || false || has_schema) place)
doomed_after true leaves_row is_write has_written has_schema place read = refl
doomed_after false true true has_written has_schema place read = sym (write_dooms (has_written || false || has_schema) place)
doomed_after false true false has_written has_schema place read = let wrong : true ≡ false = read refl in absurd cc
doomed_after false false true has_written has_schema place read = sym (write_dooms (has_written || false || has_schema) place)
doomed_after false false false has_written has_schema place read = sym (read_leaves (has_written || false || has_schema) place)

-- how a transaction stands after a statement of its own
pub standing_after : (ids : Ids) (base : State) (journal : List Tx) (step : TransactionStep) (transaction : Transaction) → step.after ≡ length journal
    → standing ids base journal false (transaction_with step transaction)
    ≡ standing_after_step (writes step.statement.operation) (standing ids base journal false transaction)
unfolding run_alone
standing_after ids base journal step transaction now =
    ap (standing_by ids base journal false (step ∷ steps)) (overlap_stays base journal step transaction now) ∙ by_overlap (overlap_of base journal transaction) refl
  where
    steps : List TransactionStep
    steps = transaction.steps

    is_write : Bool
    is_write = writes step.statement.operation

    by_overlap : (overlap : Option ℕ) → overlap_of base journal transaction ≡ overlap
        → standing_by ids base journal false (step ∷ steps) overlap ≡ standing_after_step is_write (standing_by ids base journal false steps overlap)
    by_overlap None is = refl
    by_overlap (Some number) is =
        (λ i. doomed_or_view (some_row i || written i || false || has_schema_commit_since number journal) (pred number))
        ∙ doomed_after (has_row ids base journal (pred number) steps) (is_some_row leaves) is_write (has_written_since number steps)
        (has_schema_commit_since number journal) (pred number)
        (λ read. ap (λ (row : Option Row). is_some_row (option_to_list row)) (read_no_row ids run step.statement read))
      where
        run : Run
        run = run_alone ids (state_after_first base journal (pred number)) (statements_in steps)

        leaves : List Row
        leaves = option_to_list (answer_in_run ids run step.statement).row

        some_row : has_row ids base journal (pred number) (step ∷ steps) ≡ (has_row ids base journal (pred number) steps || is_some_row leaves)
        some_row = some_more run.rows leaves

        made : nat_le number step.after ≡ true
        made = let less = (overlap_found base journal transaction number is).within in grind (arith, nat_tests)

        written : has_written_since number (step ∷ steps) ≡ (is_write || has_written_since number steps)
        written = ap (λ (b : Bool). (if b then is_write else false) || has_written_since number steps) made
