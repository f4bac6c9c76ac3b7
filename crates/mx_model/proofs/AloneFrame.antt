-- The frame of a transaction that runs alone: where nothing that rows touch meets what it read, it is answered the same after them.
use Rattle.std.proofs.Common.{◌≡◌, Bool, true, false, not, ◌&&◌, List, [], ◌∷◌, ◌++◌, Option, Some, None, refl, sym, ap, ◌∙◌, subst}
use Rattle.std.specs.Prelude.{◌==◌, if◌then◌else◌}
use Rattle.std.specs.List.{AllByRecursion}
use Rattle.std.specs.Option.{option_to_list}
use Rattle.mx_base.specs.declared.refusal.Refusal.TheVariants.{ReadOnly, TransactionTooLong}
use Rattle.mx_row.specs.declared.row.Row.{Row}
use Rattle.mx_schema.specs.State.{State}
use Rattle.mx_write.specs.Change.{state_after_changed}
use Rattle.mx_write.specs.Judge.{row_change}
use Rattle.mx_write.specs.Touches.{Touched, are_met, touched_by_change}
use Rattle.mx_model.specs.declared.ids.Ids.{Ids}
use Rattle.mx_model.specs.Answers.{state_after_row, state_after_rows}
use Rattle.mx_model.specs.Frame.{IsDataStatement, StaysSound, answer_to_statement, reads_in}
use Rattle.mx_model.specs.Bases.{writable_node}
use Rattle.mx_row.specs.Limits.{has_room}
use Rattle.mx_model.specs.RunAlone.{Run, answer_in_run, run_alone, run_with, statement_answer, within_limits, writes}
use Rattle.mx_model.specs.Touches.{rows_meet}
use Rattle.mx_model.specs.statements.Answer.{Answer, refusal_after, refusal_alone}
use Rattle.mx_model.specs.statements.Statement.{Statement}
use Rattle.mx_model.proofs.FrameTuples.{both_false, missed_parts}
use Rattle.mx_model.proofs.FrameRuns.{AreFramed, first_sound, framed_after, statement_same}
use Rattle.mx_model.proofs.FrameSteps.{row_agrees}

-- an answer that found no room has read the same
limited_reads : (rows : List Row) (answer : Answer) (row : Option Row) → (within_limits rows answer row).reads ≡ answer.reads
limited_reads rows answer None = refl
limited_reads rows answer (Some row) = by_test (has_room rows row)
  where
    by_test : (room : Bool) → (if room then answer else refusal_after answer.reads TransactionTooLong).reads ≡ answer.reads
    by_test true = refl
    by_test false = refl

module _ (ids : Ids) (base : State) (touched : List Touched) where
  -- ---- one statement

  -- two states are framed after a change of both
  abbrev FramedAfter : (one other : State) → Answer → Type 0
  FramedAfter one other answer = AreFramed base touched (state_after_changed one answer.change) (state_after_changed other answer.change)

  abbrev by_node : Bool → State → Statement → Answer
  by_node refuses before statement = if refuses then refusal_alone (ReadOnly (record { 0 = writable_node })) else answer_to_statement before statement

  stated_same : (one other : State) → AreFramed base touched one other → (statement : Statement) → IsDataStatement statement
      → are_met base touched (statement_answer ids one statement).reads ≡ false
      → (statement_answer ids other statement ≡ statement_answer ids one statement) × FramedAfter one other (statement_answer ids one statement)
  stated_same one other framed statement plain = by_test (writes statement.operation && not (ids.me == writable_node))
    where
      by_test : (refuses : Bool) → are_met base touched (by_node refuses one statement).reads ≡ false
          → (by_node refuses other statement ≡ by_node refuses one statement) × FramedAfter one other (by_node refuses one statement)
      by_test true missed = (refl, framed)
      by_test false missed =
          let same = statement_same base touched one other framed statement plain missed in (
            same,
            subst (λ (answer : Answer). AreFramed base touched (state_after_changed one (answer_to_statement one statement).change) (state_after_changed other answer.change)) same
                (framed_after base touched one other framed statement plain same),
          )

  -- also where the answer has to find room
  limited_frame : (one other : State) → AreFramed base touched one other → (rows : List Row) (answer : Answer) (row : Option Row) → FramedAfter one other answer
      → FramedAfter one other (within_limits rows answer row)
  limited_frame one other framed rows answer None after = after
  limited_frame one other framed rows answer (Some row) after = by_test (has_room rows row)
    where
      by_test : (room : Bool) → FramedAfter one other (if room then answer else refusal_after answer.reads TransactionTooLong)
      by_test true = after
      by_test false = framed

  -- ---- a run

  -- two runs were answered the same, and their states are framed
  abbrev IsSameRun : (one other : Run) → Type 0
  IsSameRun one other = (other.answers ≡ one.answers) × (other.rows ≡ one.rows) × AreFramed base touched one.state other.state

  same_further : (one other : Run) → IsSameRun one other → (statement : Statement) → IsDataStatement statement → are_met base touched (answer_in_run ids one statement).reads ≡ false
      → IsSameRun (run_with one (answer_in_run ids one statement)) (run_with other (answer_in_run ids other statement))
  same_further one other same statement plain missed =
      let answer = statement_answer ids one.state statement in
      let reads = limited_reads one.rows answer answer.row in
      let stated = stated_same one.state other.state same.2 statement plain (ap (are_met base touched) (sym reads) ∙ missed) in
      let answered : answer_in_run ids other statement ≡ answer_in_run ids one statement = λ i. within_limits (same.1 i) (stated.0 i) (stated.0 i).row in (
        λ i. answered i ∷ same.0 i,
        λ i. same.1 i ++ option_to_list (answered i).row,
        subst (λ (further : Answer). AreFramed base touched (state_after_changed one.state (answer_in_run ids one statement).change) (state_after_changed other.state further.change))
            (sym answered) (limited_frame one.state other.state same.2 one.rows answer answer.row stated.1),
      )

  runs_same : (one other : State) → AreFramed base touched one other → (statements : List Statement) → AllByRecursion IsDataStatement statements
      → are_met base touched (reads_in (run_alone ids one statements).answers) ≡ false → IsSameRun (run_alone ids one statements) (run_alone ids other statements)
  unfolding run_alone
  runs_same one other framed [] plain missed = (refl, refl, framed)
  runs_same one other framed (statement ∷ earlier) plain missed =
      let run = run_alone ids one earlier in
      let parts = missed_parts base touched (answer_in_run ids run statement).reads (reads_in run.answers) missed in
      same_further run (run_alone ids other earlier) (runs_same one other framed earlier plain.1 parts.1) statement plain.0 parts.0

-- ---- a run before and after rows

-- two runs were answered the same, and left the same rows
abbrev pub IsAnsweredSame : (one other : Run) → Type 0
IsAnsweredSame one other = (other.answers ≡ one.answers) × (other.rows ≡ one.rows)

-- a run after rows that touch nothing which it read
pub rows_leave_run : (ids : Ids) (before : State) (rows : List Row) (statements : List Statement) → StaysSound before rows → AllByRecursion IsDataStatement statements
    → rows_meet before rows (reads_in (run_alone ids before statements).answers) ≡ false
    → IsAnsweredSame (run_alone ids before statements) (run_alone ids (state_after_rows before rows) statements)
rows_leave_run ids before [] statements sound plain missed = (refl, refl)
rows_leave_run ids before (row ∷ rows) statements sound plain missed =
    let after = state_after_row before row in
    let touched = touched_by_change before (row_change before row) in
    let reads = reads_in (run_alone ids before statements).answers in
    let parts = both_false (are_met before touched reads) (rows_meet after rows reads) missed in
    let framed : AreFramed before touched before after = record { agree = row_agrees before sound.0 row; sound = sound.0; still = first_sound after rows sound.1; described = λ space. refl } in
    let same = runs_same ids before touched before after framed statements plain parts.0 in
    let rest = rows_leave_run ids after rows statements sound.1 plain (ap (λ (answers : List Answer). rows_meet after rows (reads_in answers)) same.0 ∙ parts.1) in
    (rest.0 ∙ same.0, rest.1 ∙ same.1)
