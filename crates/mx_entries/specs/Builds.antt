-- Why the index of some tuples can't be made.
use Rattle.std.specs.Prelude.{◌&&◌, List, [], ◌∷◌, Option, Some, None, Result, Ok, Err, is_some, if◌then◌else◌}
use Rattle.std.specs.FinMap.{empty, entries, get, insert}
use Rattle.std.specs.Option.{option_or}
use Rattle.mx_key.specs.declared.fault.KeyFault.{KeyFault}
use Rattle.mx_key.specs.declared.fault.KeyFault.TheVariants as key_fault
use Rattle.mx_key.specs.declared.fault.NoKey.{NoKey}
use Rattle.mx_key.specs.declared.fault.NoKey.TheVariants as no_key
use Rattle.mx_key.specs.Keys.{Key}
use Rattle.mx_schema.specs.declared.index_def.IndexDef.{IndexDef}
use Rattle.mx_schema.specs.Picks.{Indexed, tuples_by_index}
use Rattle.mx_schema.specs.State.{Tuples, key_in}
use Rattle.mx_entries.specs.declared.build_fault.BuildFault.{BuildFault}
use Rattle.mx_entries.specs.declared.build_fault.BuildFault.TheVariants.{LacksKey, Duplicate, NoMemory}

-- a tuple has no key, or in a unique index that of one of these tuples
abbrev pub row_fault : IndexDef → (before : Tuples) → Result Key NoKey → Option BuildFault
row_fault def before (Err why) = Some (LacksKey why)
row_fault def before (Ok key) = if def.unique && is_some (get (tuples_by_index def before) key) then Some Duplicate else None

-- the fault of the first of further tuples that has one
abbrev pub build_fault_from : IndexDef → (before : Tuples) → List Indexed → Option BuildFault
build_fault_from def before [] = None
build_fault_from def before (entry ∷ others) = option_or (row_fault def before (key_in def.key entry.1)) (build_fault_from def (insert before entry.0 entry.1) others)

-- the fault of the first tuple that has one, in the order of primary keys
abbrev pub build_fault : IndexDef → Tuples → Option BuildFault
build_fault def tuples = build_fault_from def empty (entries tuples)

-- the error that returns why there is no key
abbrev pub build_fault_of : KeyFault → BuildFault
build_fault_of (key_fault.Missing field) = LacksKey (no_key.Missing field)
build_fault_of (key_fault.Wrong field expected) = LacksKey (no_key.Wrong field expected)
build_fault_of key_fault.NoMemory = NoMemory
