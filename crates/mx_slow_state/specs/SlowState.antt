-- What the plain slow program keeps of a state.
use Rattle.std.specs.Prelude.{◌≡◌, ℕ, Option, Some, None, Ok, MatchOption}
use Rattle.std.specs.BTreeMap.{get_by}
use Rattle.std.specs.Ordering.{nat_cmp}
use Rattle.mx_row.specs.declared.row.Row.{Row}
use Rattle.mx_schema.specs.declared.schema.Schema.{Schema}
use Rattle.mx_schema.specs.Catalogues.{schema_of}
use Rattle.mx_schema.specs.Sound.{IsSound}
use Rattle.mx_schema.specs.State.{State, Tuples, tuples_in}
use Rattle.mx_schema.specs.Stored.{StoresNone, StoresSpace, stored_list}
use Rattle.mx_judge.specs.declared.made.Made as code
use Rattle.mx_write.specs.declared.writable.Writer.TheVariants.{Client}
use Rattle.mx_write.specs.Change.{Change}
use Rattle.mx_write.specs.Judge.{judged_write}
use Rattle.mx_write.specs.Made.{Made}
use Rattle.mx_judge.specs.Makes.{MakesWrite}
use Rattle.mx_write.specs.Writes.{Write}
use Rattle.mx_slow_state.specs.declared.slow_state.SlowState.{SlowState}
use Rattle.mx_slow_state.specs.declared.slow_state.SlowSpace.{SlowSpace}
use Rattle.mx_slow_state.specs.declared.slow_state.answers.SlowAnswer.{SlowAnswer}
use Rattle.mx_model.specs.statements.Answer.{Answer}

-- what the program has of a space, where it has something
abbrev pub KeepsSpace : (schema : Option Schema) → Option SlowSpace → Tuples → Type 0
KeepsSpace schema None tuples = StoresNone schema tuples
KeepsSpace schema (Some space) tuples = StoresSpace schema space.schema (stored_list space.tuples.items) tuples

-- the program has the tuples of a state and what describes its spaces
abbrev pub KeepsTuples : SlowState → State → Type 0
KeepsTuples slow state = (space : ℕ) → KeepsSpace (schema_of state space) (get_by (nat_cmp space) slow.spaces) (tuples_in state space)

-- the program keeps the tuples of a sound state
pub record IsSlowState (slow : SlowState) (state : State) : Type 0 where
  pub keeps : KeepsTuples slow state
  pub sound : IsSound state

-- a write in a space, judged on this state, leaves this row and makes this change
pub record IsSlowMade (before : State) (space : ℕ) (row : Row) (found : code.Made) (change : Option Change) : Type 0 where
  pub write : Write
  pub made : Made
  pub outcome : (judged_write Client before space write).outcome ≡ Ok made
  pub makes : MakesWrite before space write found made
  pub row_is : made.row ≡ Some row
  pub is : change ≡ made.change

-- the program has an answer of a statement in this space: its reply, its row, and what it changes
pub record HasAnswer (found : SlowAnswer) (before : State) (space : ℕ) (answer : Answer) : Type 0 where
  pub reply : found.reply ≡ answer.reply
  pub write : MatchOption found.write
      ((answer.row ≡ None) × (answer.change ≡ None))
      (λ write. (write.space.0 ≡ space) × (answer.row ≡ Some write.row) × IsSlowMade before space write.row write.made answer.change)
