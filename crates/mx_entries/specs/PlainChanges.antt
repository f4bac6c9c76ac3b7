-- Changes of tuples.
use Rattle.std.specs.Prelude.{◌≡◌, ◌≢◌, ℕ, List, [], ◌∷◌, ⊤, Option, Some, None, Ok, IfSome, ◌==◌, if◌then◌else◌}
use Rattle.std.specs.List.{AllByRecursion}
use Rattle.mx_key.specs.Keys.{Key}
use Rattle.mx_schema.specs.declared.index_def.IndexDef.{IndexDef}
use Rattle.mx_schema.specs.declared.schema.Schema.{Schema}
use Rattle.mx_schema.specs.Catalogues.{index_with}
use Rattle.mx_schema.specs.State.{State, key_in, with_tuple, without_tuple}

-- the tuple that stands afterwards under a primary key of a space, or none
pub record PlainChange : Type 0 where
  pub space : ℕ
  pub key : Key
  pub tuple : Option (List ℕ)

-- a state after a change of one tuple
abbrev pub state_with : State → (space : ℕ) → Key → Option (List ℕ) → State
state_with state space key None = without_tuple state space key
state_with state space key (Some tuple) = with_tuple state space key tuple

-- a state after changes, of which the first one is made first
abbrev pub state_with_all : State → List PlainChange → State
state_with_all state [] = state
state_with_all state (change ∷ all) = state_with_all (state_with state change.space change.key change.tuple) all

-- the space is there and has a primary index, and a tuple that is put has this key in it
pub record MayStand (schemas : ℕ → Option Schema) (change : PlainChange) : Type 0 where
  pub schema : Schema
  pub primary : IndexDef
  pub is : schemas change.space ≡ Some schema
  pub first : index_with 0 schema.indexes ≡ Some primary
  pub keyed : IfSome change.tuple (λ tuple. key_in primary.key tuple ≡ Ok change.key)

-- two changes aren't of one space and key
abbrev pub IsApart : PlainChange → PlainChange → Type 0
IsApart one other = one.space ≡ other.space → one.key ≢ other.key

-- no two changes are of one space and key
abbrev pub AreApart : List PlainChange → Type 0
AreApart [] = ⊤
AreApart (change ∷ all) = AllByRecursion (IsApart change) all × AreApart all

-- the tuple that will stand under a primary key of a space, or none
abbrev pub Coming : Type 0
Coming = Key × Option (List ℕ)

-- the changes of one space
abbrev pub own_changes : (space : ℕ) → List PlainChange → List Coming
own_changes space [] = []
own_changes space (change ∷ all) = if space == change.space then (change.key, change.tuple) ∷ own_changes space all else own_changes space all
