-- The tuples of a space as memory keeps them: each under the comparable bytes of its primary key.
use Rattle.std.specs.Prelude.{◌≡◌, ℕ, List, map, Option, Some, None, IfSome}
use Rattle.std.specs.List.{AllByRecursion}
use Rattle.std.specs.FinMap as finite
use Rattle.mx_key.specs.declared.part.Part.{Part}
use Rattle.mx_key.specs.Keys.{AreFit}
use Rattle.mx_key.specs.Comparable.{comparable_of}
use Rattle.mx_schema.specs.declared.keyed.Keyed.{Keyed}
use Rattle.mx_schema.specs.declared.schema.Schema.{Schema}
use Rattle.mx_schema.specs.Catalogues.{StandByKey, index_with}
use Rattle.mx_schema.specs.State.{Tuples}
use Rattle.mx_schema.specs.Picks.{Indexed}

-- a tuple under its key's bytes
abbrev pub StoredTuple : Type 0
StoredTuple = List ℕ × List ℕ

abbrev pub stored_tuple : Indexed → StoredTuple
stored_tuple entry = (comparable_of entry.0, entry.1)

-- a tuple with its key's bytes, and such ones in a list
abbrev pub stored_view : Keyed → StoredTuple
stored_view keyed = (keyed.key, keyed.tuple)

abbrev pub stored_list : List Keyed → List StoredTuple
stored_list kept = map stored_view kept

-- tuples are kept in the order of their keys, whose numbers have 64 bits
pub record StoresTuples (kept : List StoredTuple) (tuples : Tuples) : Type 0 where
  pub same : map stored_tuple (finite.entries tuples) ≡ kept
  pub fit : AllByRecursion (λ (entry : Indexed). AreFit entry.0) (finite.entries tuples)

-- each tuple stands under its key in the primary index
abbrev pub StandByPrimary : Schema → Tuples → Type 0
StandByPrimary schema tuples = IfSome (index_with 0 schema.indexes) (λ def. StandByKey def.key tuples)

-- a space that is described so, with these tuples
pub record StoresSpace (schema : Option Schema) (described : Schema) (kept : List StoredTuple) (tuples : Tuples) : Type 0 where
  pub is : schema ≡ Some described
  pub keeps : StoresTuples kept tuples
  pub stands : StandByPrimary described tuples

-- a space that isn't there
pub record StoresNone (schema : Option Schema) (tuples : Tuples) : Type 0 where
  pub none : schema ≡ None
  pub no_tuples : tuples ≡ finite.empty

-- a space is there, and its primary index has these parts
abbrev pub IsKeyedBy : List Part → Option Schema → Type 0
IsKeyedBy parts None = ⊥
IsKeyedBy parts (Some schema) = IfSome (index_with 0 schema.indexes) (λ def. def.key ≡ parts)
