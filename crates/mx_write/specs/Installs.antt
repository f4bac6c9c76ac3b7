-- Only private functions and proofs need these: what a write that changes something was judged by.
use Rattle.std.specs.Prelude.{◌≡◌, ◌⊎◌, ℕ, false, List, Option, Some, None, Ok, IfSome}
use Rattle.std.specs.FinMap.{get}
use Rattle.mx_key.specs.Keys.{Key}
use Rattle.mx_msgpack.specs.Items.{items_of}
use Rattle.mx_schema.specs.declared.index_def.IndexDef.{IndexDef}
use Rattle.mx_schema.specs.declared.schema.Schema.{Schema}
use Rattle.mx_schema.specs.Catalogues.{index_with, schema_of}
use Rattle.mx_schema.specs.State.{State, key_in, tuples_in}
use Rattle.mx_write.specs.Checks.{keys_fault}
use Rattle.mx_write.specs.Descriptions.{description_fault, drop_fault, new_index_fault}
use Rattle.mx_write.specs.Lookup.{other_indexes}
use Rattle.mx_write.specs.Unique.{are_free}
use Rattle.mx_write.specs.Writable.{begins_with_system_number, describes_schema}

-- a row that describes a user's space or index, and isn't there yet
pub record Adds (before : State) (space : ℕ) (key : Key) (row : List ℕ) : Type 0 where
  pub described : description_fault before space row ≡ None
  pub made : new_index_fault before space row ≡ None
  pub absent : get (tuples_in before space) key ≡ None
  pub of_user : begins_with_system_number (items_of row) ≡ false

-- one that is there, and may go
pub record Drops (before : State) (space : ℕ) (key : Key) : Type 0 where
  pub row : List ℕ
  pub there : get (tuples_in before space) key ≡ Some row
  pub may : drop_fault before space row ≡ None
  pub of_user : begins_with_system_number (items_of row) ≡ false

abbrev pub AddsOrDrops : State → (space : ℕ) → Key → (tuple : Option (List ℕ)) → Type 0
AddsOrDrops before space key None = Drops before space key
AddsOrDrops before space key (Some row) = Adds before space key row

-- a tuple has a key in each index, and in a unique one no other tuple has it
pub record Fits (before : State) (space : ℕ) (schema : Schema) (primary : IndexDef) (key : Key) (tuple : List ℕ) : Type 0 where
  pub own : key_in primary.key tuple ≡ Ok key
  pub keyed : keys_fault (other_indexes schema.indexes) tuple ≡ None
  pub free : (are_free before space schema primary (Some key) tuple (other_indexes schema.indexes)).outcome ≡ Ok tt

-- a change of what stands under a primary key of a space
pub record MayChange (before : State) (space : ℕ) (key : Key) (tuple : Option (List ℕ)) : Type 0 where
  pub schema : Schema
  pub primary : IndexDef
  pub described : schema_of before space ≡ Some schema
  pub there : index_with 0 schema.indexes ≡ Some primary
  pub fits : IfSome tuple (Fits before space schema primary key)
  pub kind : (describes_schema space ≡ false) ⊎ AddsOrDrops before space key tuple

-- this tuple stands under a primary key of a space
abbrev pub Stands : State → (space : ℕ) → Key → (tuple : List ℕ) → Type 0
Stands before space key tuple = get (tuples_in before space) key ≡ Some tuple
