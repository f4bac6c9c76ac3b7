-- What statements read: ranges of the keys of indexes.
use Rattle.std.specs.Prelude.{ℕ, pos, List, [], ◌∷◌}
use Rattle.mx_key.specs.Keys.{Integer, Key}
use Rattle.mx_key.specs.Ranges.{Range, prefix_range}
use Rattle.mx_schema.specs.State.{space_rows, index_rows}

-- a range of an index's keys that a statement reads
pub record Read : Type 0 where
  pub space : ℕ
  pub index : ℕ
  pub range : Range

-- one key of an index
abbrev pub key_read : (space index : ℕ) → Key → Read
key_read space index key = record { space = space; index = index; range = prefix_range key }

-- the row that describes a space
abbrev pub space_read : ℕ → Read
space_read space = key_read space_rows 0 (Integer (pos space) ∷ [])

-- the rows that describe a space's indexes
abbrev pub index_read : ℕ → Read
index_read space = key_read index_rows 0 (Integer (pos space) ∷ [])

-- what each statement on a space that is there reads
abbrev pub schema_reads : ℕ → List Read
schema_reads space = space_read space ∷ index_read space ∷ []
