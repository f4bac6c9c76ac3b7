-- What transactions that run alone leave: rows whose tuples are bytes, which keep a state sound.
use Rattle.std.proofs.Common.{◌≡◌, ℕ, Bool, true, false, not, ◌&&◌, List, [], ◌∷◌, Option, Some, None, Result, Ok, Err, refl, sym, ap, ◌∙◌, subst}
use Rattle.std.specs.Prelude.{nat_lt, ◌==◌, if◌then◌else◌}
use Rattle.std.specs.List.{AllByRecursion}
use Rattle.std.specs.Option.{option_to_list}
use Rattle.mx_vclock.specs.Vclocks.{max_lsn}
use Rattle.mx_base.specs.declared.refusal.Refusal.{Refusal}
use Rattle.mx_base.specs.declared.refusal.Refusal.TheVariants.{LsnsUsedUp, ReadOnly, TransactionTooLong}
use Rattle.mx_key.specs.Arrays.{key_array}
use Rattle.mx_row.specs.declared.row.Row.{Row}
use Rattle.mx_row.specs.declared.tx.Tx.{Tx}
use Rattle.mx_schema.specs.Sound.{IsSound}
use Rattle.mx_schema.specs.State.{State}
use Rattle.mx_write.specs.declared.writable.Writer.TheVariants.{Client}
use Rattle.mx_write.specs.Judge.{judged_write}
use Rattle.mx_write.specs.Made.{Made, row_with, write_of}
use Rattle.mx_write.specs.Writes.{Delete, HasBytes, Insert, Replace, Update, Upsert, Write}
use Rattle.mx_write.proofs.WrittenLaws.{makes, wrote_row}
use Rattle.mx_model.specs.declared.ids.Ids.{Ids}
use Rattle.mx_model.specs.Alone.{HaveBytes}
use Rattle.mx_model.specs.Answers.{answer_in_space, state_after_rows}
use Rattle.mx_model.specs.Frame.{OperationHasBytes}
use Rattle.mx_model.specs.Bases.{with_lsn, writable_node}
use Rattle.mx_row.specs.Limits.{has_room}
use Rattle.mx_model.specs.RunAlone.{answer_in_run, run_alone, statement_answer, within_limits, writes}
use Rattle.mx_model.specs.Transactions.{state_after}
use Rattle.mx_model.specs.statements.Answer.{Answer, refusal_after, refusal_alone}
use Rattle.mx_model.specs.statements.Select.{iterator_of}
use Rattle.mx_model.specs.statements.Statement.{Operation, Selects, Statement, Writes}
use Rattle.mx_model.specs.statements.Write.{answer_of_outcome}
use Rattle.mx_model.proofs.EachLaws.{each_of_both}
use Rattle.mx_model.proofs.FrameRuns.{last_sound, rows_stay_sound}
use Rattle.mx_model.proofs.AnswerLaws.{select_no_row}

-- ---- the row of a statement

-- the row of a write has the write's tuple
row_bytes : (space : ℕ) (write : Write) (key : List ℕ) → HasBytes write → HasBytes (write_of (row_with space write key))
row_bytes space (Insert tuple) key bytes = bytes
row_bytes space (Replace tuple) key bytes = bytes
row_bytes space (Update index base asked operations) key bytes = tt
row_bytes space (Delete index asked) key bytes = tt
row_bytes space (Upsert base tuple operations) key bytes = bytes

-- an answer's row has bytes, where there is one
abbrev LeavesBytes : Answer → Type 0
LeavesBytes answer = HaveBytes (option_to_list answer.row)

write_bytes : (before : State) (space : ℕ) (write : Write) → HasBytes write → LeavesBytes (answer_in_space before space (Writes write))
write_bytes before space write bytes = by_outcome (judged_write Client before space write).outcome refl
  where
    by_row : (is : Made) → (judged_write Client before space write).outcome ≡ Ok is → (row : Option Row) → is.row ≡ row → HaveBytes (option_to_list row)
    by_row is e None left = tt
    by_row is e (Some row) left =
        let so = wrote_row Client before space is write row e left in
        let made = (makes space write so.key so.tuple so.shown is so.made).1 in
        let rows : Some (row_with space write (key_array so.key)) ≡ Some row = ap (λ (m : Made). m.row) (sym made) ∙ left in
        let same : row_with space write (key_array so.key) ≡ row = cc in
        (subst (λ r. HasBytes (write_of r)) same (row_bytes space write (key_array so.key) bytes), tt)

    by_outcome : (outcome : Result Made Refusal) → (judged_write Client before space write).outcome ≡ outcome
        → LeavesBytes (answer_of_outcome (judged_write Client before space write).reads outcome)
    by_outcome (Ok is) e = by_row is e is.row refl
    by_outcome (Err why) e = tt

operation_bytes : (before : State) (space : ℕ) (operation : Operation) → OperationHasBytes operation → LeavesBytes (answer_in_space before space operation)
operation_bytes before space (Selects index limit offset iterator key) bytes =
    subst (λ (row : Option Row). HaveBytes (option_to_list row)) (sym (select_no_row before space index limit offset (iterator_of iterator) key)) tt
operation_bytes before space (Writes write) bytes = write_bytes before space write bytes

pub statement_bytes : (ids : Ids) (before : State) (statement : Statement) → OperationHasBytes statement.operation → LeavesBytes (statement_answer ids before statement)
statement_bytes ids before statement bytes = by_test (writes statement.operation && not (ids.me == writable_node))
  where
    by_test : (refuses : Bool)
        → LeavesBytes (if refuses then refusal_alone (ReadOnly (record { 0 = writable_node })) else answer_in_space before statement.space statement.operation)
    by_test true = tt
    by_test false = operation_bytes before statement.space statement.operation bytes

-- a statement by itself
pub numbered_bytes : (lsn : ℕ) (answer : Answer) (row : Option Row) → LeavesBytes answer → LeavesBytes (with_lsn lsn answer row)
numbered_bytes lsn answer None bytes = bytes
numbered_bytes lsn answer (Some row) bytes = by_test (nat_lt max_lsn lsn)
  where
    by_test : (above : Bool) → LeavesBytes (if above then refusal_after answer.reads LsnsUsedUp else answer)
    by_test true = tt
    by_test false = bytes

limited_bytes : (rows : List Row) (answer : Answer) (row : Option Row) → LeavesBytes answer → LeavesBytes (within_limits rows answer row)
limited_bytes rows answer None bytes = bytes
limited_bytes rows answer (Some row) bytes = by_test (has_room rows row)
  where
    by_test : (room : Bool) → LeavesBytes (if room then answer else refusal_after answer.reads TransactionTooLong)
    by_test true = bytes
    by_test false = tt

-- ---- the rows of a run

pub run_bytes : (ids : Ids) (before : State) (statements : List Statement) → AllByRecursion (λ (statement : Statement). OperationHasBytes statement.operation) statements
    → HaveBytes (run_alone ids before statements).rows
unfolding run_alone
run_bytes ids before [] bytes = tt
run_bytes ids before (statement ∷ earlier) bytes =
    let run = run_alone ids before earlier in
    let answer = statement_answer ids run.state statement in
    each_of_both (λ (row : Row). HasBytes (write_of row)) run.rows (option_to_list (answer_in_run ids run statement).row) (run_bytes ids before earlier bytes.1)
    (limited_bytes run.rows answer answer.row (statement_bytes ids run.state statement bytes.0))

-- ---- states

pub rows_sound : (before : State) (rows : List Row) → IsSound before → HaveBytes rows → IsSound (state_after_rows before rows)
rows_sound before rows sound bytes = last_sound before rows (rows_stay_sound before rows sound bytes)

-- the newest state
pub journal_sound : (base : State) (journal : List Tx) → IsSound base → AllByRecursion (λ (commit : Tx). HaveBytes commit.rows) journal → IsSound (state_after base journal)
journal_sound base [] sound bytes = sound
journal_sound base (commit ∷ later) sound bytes = journal_sound (state_after_rows base commit.rows) later (rows_sound base commit.rows sound bytes.0) bytes.1
