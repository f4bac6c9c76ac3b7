-- A transaction run alone: its statements one after the other, each in the state that those before it left.
use Rattle.std.specs.Prelude.{Bool, true, false, not, ◌&&◌, List, [], ◌∷◌, ◌++◌, Option, Some, None, ◌==◌, if◌then◌else◌}
use Rattle.std.specs.Option.{option_to_list}
use Rattle.mx_base.specs.declared.refusal.Refusal.TheVariants.{ReadOnly, TransactionTooLong}
use Rattle.mx_row.specs.declared.row.Row.{Row}
use Rattle.mx_row.specs.Limits.{has_room}
use Rattle.mx_schema.specs.State.{State}
use Rattle.mx_write.specs.Change.{state_after_changed}
use Rattle.mx_model.specs.declared.ids.Ids.{Ids}
use Rattle.mx_model.specs.Answers.{answer_in_space}
use Rattle.mx_model.specs.Bases.{writable_node}
use Rattle.mx_model.specs.statements.Answer.{Answer, refusal_after, refusal_alone}
use Rattle.mx_model.specs.statements.Statement.{Operation, Selects, Statement, Writes}

-- the statement writes
abbrev pub writes : Operation → Bool
writes (Selects index limit offset iterator key) = false
writes (Writes write) = true

-- what a statement is answered on a node with these identifiers
abbrev pub statement_answer : Ids → State → Statement → Answer
statement_answer ids before statement =
    if writes statement.operation && not (ids.me == writable_node) then refusal_alone (ReadOnly (record { 0 = writable_node }))
    else answer_in_space before statement.space statement.operation

-- ---- the limits of a transaction

-- the answer of a statement of a transaction with these rows: its row has to find room
abbrev pub within_limits : List Row → Answer → Option Row → Answer
within_limits rows answer None = answer
within_limits rows answer (Some row) = if has_room rows row then answer else refusal_after answer.reads TransactionTooLong

-- ---- the run

-- what a run has come to: the answers, the newest first; the rows, the first of them first; and the state
pub record Run : Type 0 where
  pub answers : List Answer
  pub rows : List Row
  pub state : State

abbrev pub run_with : Run → Answer → Run
run_with run answer = record {
  answers = answer ∷ run.answers;
  rows = run.rows ++ option_to_list answer.row;
  state = state_after_changed run.state answer.change;
}

-- what a further statement is answered
abbrev pub answer_in_run : Ids → Run → Statement → Answer
answer_in_run ids run statement = let answer = statement_answer ids run.state statement in within_limits run.rows answer answer.row

-- statements run alone from a state, the newest of them first
unfoldable pub run_alone : Ids → State → List Statement → Run
run_alone ids before [] = record { answers = []; rows = []; state = before }
run_alone ids before (statement ∷ earlier) =
    let run = run_alone ids before earlier in run_with run (answer_in_run ids run statement)

-- what the newest statement is answered
abbrev pub answer_alone : Ids → State → Statement → (earlier : List Statement) → Answer
answer_alone ids before statement earlier = answer_in_run ids (run_alone ids before earlier) statement
