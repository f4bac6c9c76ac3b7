-- The catalogue: which spaces there are, each with its indexes, as rows describe them.
use Rattle.std.specs.Prelude.{◌≡◌, ℕ, pos, List, [], ◌∷◌, Option, Some, None, Ok, ◌==◌, if◌then◌else◌}
use Rattle.std.specs.List.{AllByRecursion, filter}
use Rattle.std.specs.FinMap.{FinMap, entries, get}
use Rattle.std.specs.Option.{option_map}
use Rattle.std.specs.Ordering.{nat_cmp}
use Rattle.mx_msgpack.specs.Readers.{◌>>=◌}
use Rattle.mx_key.specs.declared.part.Part.{Part}
use Rattle.mx_key.specs.Keys.{Key, Integer, is_key_prefix}
use Rattle.mx_schema.specs.declared.index_def.IndexDef.{IndexDef}
use Rattle.mx_schema.specs.declared.index_def.IndexRow.{IndexRow}
use Rattle.mx_schema.specs.declared.schema.Schema.{Schema}
use Rattle.mx_schema.specs.declared.space_def.SpaceDef.{SpaceDef}
use Rattle.mx_schema.specs.State.{State, Tuples, key_in, tuples_in, space_rows, index_rows}
use Rattle.mx_schema.specs.SpaceRows.{space_in}
use Rattle.mx_schema.specs.IndexRows.{index_in}

-- the spaces by number, each with its indexes, which stand by ascending numbers
abbrev pub Catalogue : Type 0
Catalogue = FinMap nat_cmp Schema

-- the index of a number
abbrev pub index_with : (id : ℕ) → List IndexDef → Option IndexDef
index_with id [] = None
index_with id (def ∷ others) = if def.id.0 == id then Some def else index_with id others

abbrev pub space_among : Catalogue → (id : ℕ) → Option SpaceDef
space_among catalogue id = option_map (λ schema. schema.def) (get catalogue id)

abbrev pub index_among : Catalogue → (space id : ℕ) → Option IndexDef
index_among catalogue space id = get catalogue space >>= (λ schema. index_with id schema.indexes)

-- ---- the catalogue of a state

-- the space of a number, as its row describes it
abbrev pub space_of : State → (id : ℕ) → Option SpaceDef
space_of state id = get (tuples_in state space_rows) (Integer (pos id) ∷ []) >>= space_in

abbrev pub with_index : Option IndexRow → List IndexDef → List IndexDef
with_index None defs = defs
with_index (Some row) defs = row.def ∷ defs

-- the indexes that these rows describe
abbrev pub index_defs : List (Key × List ℕ) → List IndexDef
index_defs [] = []
index_defs (entry ∷ others) = with_index (index_in entry.1) (index_defs others)

-- the indexes of a space, by ascending numbers
abbrev pub indexes_of : State → (space : ℕ) → List IndexDef
indexes_of state space = index_defs (filter (λ entry. is_key_prefix (Integer (pos space) ∷ []) entry.0) (entries (tuples_in state index_rows)))

abbrev pub schema_by : State → (space : ℕ) → Option SpaceDef → Option Schema
schema_by state space None = None
schema_by state space (Some def) = Some (record { def = def; indexes = indexes_of state space })

-- what the rows of a state say of a space: its own row in the one, and those that begin with its number in the other
unfoldable pub schema_of : State → (space : ℕ) → Option Schema
schema_of state space = schema_by state space (space_of state space)

-- the catalogue is that of the state
abbrev pub IsCatalogueOf : Catalogue → State → Type 0
IsCatalogueOf catalogue state = (space : ℕ) → get catalogue space ≡ schema_of state space

-- each tuple stands under its key of these parts
abbrev pub StandByKey : List Part → Tuples → Type 0
StandByKey parts tuples = AllByRecursion (λ entry. key_in parts entry.1 ≡ Ok entry.0) (entries tuples)
