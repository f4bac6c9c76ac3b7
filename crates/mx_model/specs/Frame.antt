-- The frame of a statement: two states that agree but for what was touched, between which a statement that read none of it can't tell.
use Rattle.std.specs.Prelude.{◌≡◌, ◌⊎◌, ⊤, ℕ, ◌≤◌, pos, false, List, [], ◌∷◌, ◌++◌, Option, Some, None}
use Rattle.std.specs.FinMap.{get}
use Rattle.std.specs.List.{Contains}
use Rattle.mx_key.specs.Keys.{Key, Integer}
use Rattle.mx_row.specs.declared.row.Row.{Row}
use Rattle.mx_schema.specs.SchemaChecks.{first_user_space}
use Rattle.mx_schema.specs.Sound.{IsSound}
use Rattle.mx_schema.specs.State.{State, index_rows, tuples_in}
use Rattle.mx_write.specs.Change.{state_after_changed}
use Rattle.mx_write.specs.Reads.{Read}
use Rattle.mx_write.specs.Writable.{describes_schema}
use Rattle.mx_write.specs.Writes.{HasBytes}
use Rattle.mx_write.specs.Touches.{Touched}
use Rattle.mx_model.specs.Answers.{answer_in_space, state_after_row}
use Rattle.mx_model.specs.statements.Answer.{Answer}
use Rattle.mx_model.specs.statements.Statement.{Operation, Selects, Statement, Writes}

-- what a state has under a key of a space, if anything, was touched
abbrev pub IsTouched : List Touched → State → (space : ℕ) → Key → Type 0
IsTouched touched state space key =
    (tuple : List ℕ) → get (tuples_in state space) key ≡ Some tuple → Contains touched (record { space = space; key = key; tuple = tuple })

-- two states have the same under a key of a space, or what either has there was touched
abbrev pub AgreeAt : List Touched → (one other : State) → (space : ℕ) → Key → Type 0
AgreeAt touched one other space key =
    (get (tuples_in one space) key ≡ get (tuples_in other space) key) ⊎ (IsTouched touched one space key × IsTouched touched other space key)

-- the row of the primary index of a user's space was touched: the space's tuples go with that row, and are not touched themselves
abbrev pub IsIndexTouched : List Touched → (space : ℕ) → Type 0
IsIndexTouched touched space =
    (first_user_space ≤ space) × (row : List ℕ)
    × Contains touched (record { space = index_rows; key = Integer (pos space) ∷ Integer (pos 0) ∷ []; tuple = row })

-- two states agree but for what was touched: in each space whose primary index wasn't, they do under each key
abbrev pub AgreeBut : List Touched → (one other : State) → Type 0
AgreeBut touched one other = (space : ℕ) → IsIndexTouched touched space ⊎ ((key : Key) → AgreeAt touched one other space key)

-- a statement that doesn't write the rows that describe spaces and indexes
abbrev pub IsNoSchemaWrite : (space : ℕ) → Operation → Type 0
IsNoSchemaWrite space (Selects index limit offset iterator key) = ⊤
IsNoSchemaWrite space (Writes write) = describes_schema space ≡ false

-- ---- statements one after the other

-- its tuple is bytes, where it has one
abbrev pub OperationHasBytes : Operation → Type 0
OperationHasBytes (Selects index limit offset iterator key) = ⊤
OperationHasBytes (Writes write) = HasBytes write

-- a statement of bytes that doesn't write the rows that describe spaces and indexes
abbrev pub IsDataStatement : Statement → Type 0
IsDataStatement statement = IsNoSchemaWrite statement.space statement.operation × OperationHasBytes statement.operation

abbrev pub answer_to_statement : State → Statement → Answer
answer_to_statement before statement = answer_in_space before statement.space statement.operation

abbrev pub state_after_statement : State → Statement → State
state_after_statement before statement = state_after_changed before (answer_to_statement before statement).change

-- the state after statements, the first of them first
abbrev pub state_after_statements : State → List Statement → State
state_after_statements before [] = before
state_after_statements before (statement ∷ later) = state_after_statements (state_after_statement before statement) later

-- what each is answered, in the state after those before it
abbrev pub answers_from : State → List Statement → List Answer
answers_from before [] = []
answers_from before (statement ∷ later) = answer_to_statement before statement ∷ answers_from (state_after_statement before statement) later

-- what answers have read, one after the other
abbrev pub reads_in : List Answer → List Read
reads_in [] = []
reads_in (answer ∷ later) = answer.reads ++ reads_in later

-- the row that an answer writes, before others
abbrev pub with_row : Option Row → List Row → List Row
with_row None rows = rows
with_row (Some row) rows = row ∷ rows

-- the rows that answers write, one after the other
abbrev pub rows_in : List Answer → List Row
rows_in [] = []
rows_in (answer ∷ later) = with_row answer.row (rows_in later)

-- a state is sound, and stays so after each of these rows
abbrev pub StaysSound : State → List Row → Type 0
StaysSound before [] = IsSound before
StaysSound before (row ∷ rows) = IsSound before × StaysSound (state_after_row before row) rows
