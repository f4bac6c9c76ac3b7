-- The entries of a space's indexes, and what memory keeps of them.
use Rattle.std.specs.Prelude.{Option}
use Rattle.std.specs.FinMap.{entries}
use Rattle.std.specs.List.{AllZip}
use Rattle.mx_schema.specs.declared.schema.Schema.{Schema}
use Rattle.mx_schema.specs.State.{Tuples}
use Rattle.mx_schema.specs.Stored.{StoresSpace}
use Rattle.mx_space.specs.declared.space.Space.{Space}
use Rattle.mx_entries.specs.KeptEntries.{StoresIndex}

-- a space that is described so, with these tuples, and the entries of each index in the order of the schema
pub record StoresIndexed (schema : Option Schema) (space : Space) (tuples : Tuples) : Type 0 where
  pub holds : StoresSpace schema space.schema space.tuples.entries tuples
  pub indexes : AllZip (StoresIndex tuples) space.schema.indexes space.indexes.items
