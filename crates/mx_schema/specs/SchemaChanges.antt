-- What the rows of a state describe where one more row of a space or an index is put, or one is taken out.
use Rattle.std.specs.Prelude.{◌≡◌, ℕ, pos, not, List, [], ◌∷◌, Option, Some, None, ◌==◌, if◌then◌else◌}
use Rattle.std.specs.FinMap.{empty, entries, insert}
use Rattle.std.specs.List.{AllByRecursion, filter}
use Rattle.mx_key.specs.Keys.{Key, Integer}
use Rattle.mx_schema.specs.declared.index_def.IndexDef.{IndexDef}
use Rattle.mx_schema.specs.declared.index_def.IndexRow.{IndexRow}
use Rattle.mx_schema.specs.declared.schema.Schema.{Schema}
use Rattle.mx_schema.specs.Catalogues.{indexes_of, schema_of}
use Rattle.mx_schema.specs.IndexRows.{index_in}
use Rattle.mx_schema.specs.SchemaChecks.{indexes_with}
use Rattle.mx_schema.specs.State.{State, index_rows, tuples_in}

-- the same descriptions but for one space
abbrev pub with_schema : (schemas : ℕ → Option Schema) → (space : ℕ) → Option Schema → ℕ → Option Schema
with_schema schemas space schema q = if q == space then schema else schemas q

-- the indexes without those of a number
abbrev pub indexes_without : (id : ℕ) → List IndexDef → List IndexDef
indexes_without id defs = filter (λ def. not (def.id.0 == id)) defs

abbrev pub schema_with_index : IndexDef → Schema → Schema
schema_with_index def schema = record { def = schema.def; indexes = indexes_with def schema.indexes }

abbrev pub schema_without_index : (id : ℕ) → Schema → Schema
schema_without_index id schema = record { def = schema.def; indexes = indexes_without id schema.indexes }

-- the tuples of a space that keeps its other indexes: none without the primary one
abbrev pub without_index : State → (space id : ℕ) → State
without_index state space id = if id == 0 then insert state space empty else state

-- ---- rows of indexes

-- a row of an index stands under the numbers of its space and its index
abbrev pub IndexRowStands : Key × List ℕ → Type 0
IndexRowStands entry = (row : IndexRow) × (index_in entry.1 ≡ Some row) × (entry.0 ≡ Integer (pos row.space.0) ∷ Integer (pos row.def.id.0) ∷ [])

-- each row of an index does
abbrev pub RowsStand : State → Type 0
RowsStand state = AllByRecursion IndexRowStands (entries (tuples_in state index_rows))

-- a space that isn't there has no rows of indexes
abbrev pub IndexesHaveSpaces : State → Type 0
IndexesHaveSpaces state = (space : ℕ) → schema_of state space ≡ None → indexes_of state space ≡ []
