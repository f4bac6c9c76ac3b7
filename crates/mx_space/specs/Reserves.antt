-- The changes of a commit, and memory that has all that they need.
use Rattle.std.specs.Prelude.{◌≡◌, ℕ, List, [], Option, Some, is_some, not}
use Rattle.std.specs.FinMap.{get}
use Rattle.std.specs.List.{AllByRecursion, AllZip}
use Rattle.mx_key.specs.Comparable.{comparable_of}
use Rattle.mx_key.specs.Keys.{AreFit}
use Rattle.mx_schema.specs.declared.schema.Schema.{Schema}
use Rattle.mx_schema.specs.State.{State, tuples_in}
use Rattle.mx_space.specs.declared.prepared.Step.{Step}
use Rattle.mx_space.specs.declared.spaces.SpaceEntry.{SpaceEntry}
use Rattle.mx_space.specs.declared.state.State as coded
use Rattle.mx_space.specs.declared.tuple_changes.TupleChange.{TupleChange}
use Rattle.mx_entries.specs.PlainChanges.{PlainChange, MayStand, AreApart, own_changes}
use Rattle.mx_space.specs.Reserved.{EditsAll, HoldsReserved, all_released, content_under, is_removal}

-- the code's change is this plain one
pub record SpellsChange (coded : TupleChange) (plain : PlainChange) : Type 0 where
  pub space : coded.space.0 ≡ plain.space
  pub key : coded.key ≡ comparable_of plain.key
  pub fit : AreFit plain.key
  pub tuple : coded.tuple ≡ plain.tuple

-- a change as it was made ready: what it does to the tuple and to each index
pub record IsReadied (schemas : ℕ → Option Schema) (state : State) (step : Step) (plain : PlainChange) : Type 0 where
  pub space : step.space.0 ≡ plain.space
  pub key : step.key ≡ comparable_of plain.key
  pub fit : AreFit plain.key
  pub removes : is_removal step.tuple ≡ not (is_some plain.tuple)
  pub edits : (schema : Schema) → schemas plain.space ≡ Some schema → EditsAll plain.key plain.tuple (get (tuples_in state plain.space) plain.key) schema.indexes step.edits.items

-- Spaces have the tuples of a state, with those that changes put and an entry more for each of them; the steps say which.
pub record AreReady (schemas : ℕ → Option Schema) (spaces : List SpaceEntry) (state : State) (steps : List Step) (all : List PlainChange) : Type 0 where
  pub holds : (space : ℕ) → HoldsReserved (schemas space) (content_under space spaces) (tuples_in state space) (own_changes space all)
  pub ready : AllZip (IsReadied schemas state) steps all
  pub stand : AllByRecursion (MayStand schemas) all
  pub apart : AreApart all

-- memory is such a state, and gives it back where what the steps added is taken out again
pub record IsReserved (schemas : ℕ → Option Schema) (memory : coded.State) (state : State) (steps : List Step) (all : List PlainChange) : Type 0 where
  pub ready : AreReady schemas memory.spaces.entries.items state steps all
  pub back : (space : ℕ) → HoldsReserved (schemas space) (all_released space steps (content_under space memory.spaces.entries.items)) (tuples_in state space) []
