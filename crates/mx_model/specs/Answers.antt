-- What each request is answered on a state, and the state after what it writes.
use Rattle.std.specs.Prelude.{ℕ, List, [], ◌∷◌, Option, Some, None}
use Rattle.mx_request.specs.declared.request.Request.{Request}
use Rattle.mx_request.specs.declared.request.Request.TheVariants as request
use Rattle.mx_schema.specs.State.{State}
use Rattle.mx_row.specs.declared.row.Row.{Row}
use Rattle.mx_model.specs.declared.reply.Reply.TheVariants.{Empty, Id}
use Rattle.mx_write.specs.Change.{state_after_changed}
use Rattle.mx_write.specs.Judge.{row_change}
use Rattle.mx_model.specs.statements.Statement.{Statement, Operation, Selects, Writes, statement_of}
use Rattle.mx_model.specs.statements.Answer.{Answer, reply_alone, not_built}
use Rattle.mx_model.specs.statements.Select.{iterator_of, select_answer_in}
use Rattle.mx_model.specs.statements.Write.{write_answer_in}

-- a request that is no statement
abbrev pub answer_without_space : Request → Answer
answer_without_space request.Nop = reply_alone Empty
answer_without_space request.Ping = reply_alone Empty
answer_without_space request.Id = reply_alone Id
answer_without_space other = not_built other

-- a request that does this in a space
abbrev pub answer_in_space : State → (space : ℕ) → Operation → Answer
answer_in_space before space (Selects index limit offset iterator key) = select_answer_in before space index limit offset (iterator_of iterator) key
answer_in_space before space (Writes write) = write_answer_in before space write

abbrev pub answer_by_statement : State → Request → Option Statement → Answer
answer_by_statement before asked None = answer_without_space asked
answer_by_statement before asked (Some statement) = answer_in_space before statement.space statement.operation

unfoldable pub answer_to : State → Request → Answer
answer_to before asked = answer_by_statement before asked (statement_of asked)

unfoldable pub state_after_row : State → Row → State
state_after_row before row = state_after_changed before (row_change before row)

abbrev pub state_after_rows : State → List Row → State
state_after_rows before [] = before
state_after_rows before (row ∷ rows) = state_after_rows (state_after_row before row) rows
