-- Sound states: each tuple stands under its own primary key and has a key in every index of its space, and the rows that describe
-- spaces and indexes fit together.
use Rattle.std.specs.Prelude.{◌≡◌, ◌<◌, ℕ, pos, true, List, [], ◌∷◌, Option, Some, None, Ok}
use Rattle.std.specs.FinMap.{empty, entries, get}
use Rattle.std.specs.List.{AllByRecursion}
use Rattle.mx_key.specs.Keys.{Key, AreFit, Integer}
use Rattle.mx_schema.specs.declared.index_def.IndexDef.{IndexDef}
use Rattle.mx_schema.specs.declared.schema.Schema.{Schema}
use Rattle.mx_schema.specs.declared.space_def.SpaceDef.{SpaceDef}
use Rattle.mx_schema.specs.Bootstrap.{first_state}
use Rattle.mx_schema.specs.Catalogues.{index_with, schema_of}
use Rattle.mx_schema.specs.Picks.{Indexed}
use Rattle.mx_schema.specs.SchemaChanges.{IndexesHaveSpaces, RowsStand}
use Rattle.mx_schema.specs.SchemaChecks.{first_user_space}
use Rattle.mx_schema.specs.SpaceRows.{space_in}
use Rattle.mx_schema.specs.State.{State, Tuples, key_in, space_rows, tuples_in}
use Rattle.mx_schema.specs.Stored.{StandByPrimary}

-- each tuple has a key in the index
abbrev pub HaveKeys : IndexDef → Tuples → Type 0
HaveKeys def tuples = AllByRecursion (λ (entry : Indexed). (key : Key) × (key_in def.key entry.1 ≡ Ok key)) (entries tuples)

-- no two tuples have one key in the index
abbrev pub AreUnique : IndexDef → Tuples → Type 0
AreUnique def tuples = (one other : Key) (first second : List ℕ) (key : Key) → get tuples one ≡ Some first → get tuples other ≡ Some second
    → key_in def.key first ≡ Ok key → key_in def.key second ≡ Ok key → one ≡ other

-- The indexes of a space have different numbers. Each tuple has a key in each of them, and in a unique one it has it alone; without a
-- primary index there are no tuples.
pub record AreIndexed (schema : Schema) (tuples : Tuples) : Type 0 where
  pub apart : AllByRecursion (λ def. index_with def.id.0 schema.indexes ≡ Some def) schema.indexes
  pub have : AllByRecursion (λ def. HaveKeys def tuples) schema.indexes
  pub unique : AllByRecursion (λ def. def.unique ≡ true → AreUnique def tuples) schema.indexes
  pub primary : index_with 0 schema.indexes ≡ None → tuples ≡ empty

-- each tuple of a space stands under its key in the primary index, whose numbers have 64 bits; a space that isn't there has none
abbrev pub AreKeyed : Option Schema → Tuples → Type 0
AreKeyed None tuples = tuples ≡ empty
AreKeyed (Some schema) tuples =
    StandByPrimary schema tuples × AllByRecursion (λ (entry : Indexed). AreFit entry.0) (entries tuples) × AreIndexed schema tuples

-- the row of a space stands under its number
abbrev pub SpaceRowStands : Indexed → Type 0
SpaceRowStands entry = (def : SpaceDef) × (space_in entry.1 ≡ Some def) × (entry.0 ≡ Integer (pos def.id.0) ∷ [])

-- The database's own spaces are described as in a new one. Each row of a space or an index stands under its numbers, and the space of
-- an index is there.
pub record IsDescribed (state : State) : Type 0 where
  pub own : (space : ℕ) → space < first_user_space → schema_of state space ≡ schema_of first_state space
  pub spaces : AllByRecursion SpaceRowStands (entries (tuples_in state space_rows))
  pub indexes : RowsStand state
  pub have : IndexesHaveSpaces state

pub record IsSound (state : State) : Type 0 where
  pub keyed : (space : ℕ) → AreKeyed (schema_of state space) (tuples_in state space)
  pub described : IsDescribed state
