-- What a row that describes a space or an index has to be, beside what its space asks of each tuple, and when it may go.
use Rattle.std.specs.Prelude.{ℕ, pos, Bool, not, ◌&&◌, List, [], ◌∷◌, Option, Some, None, is_none, is_some, ◌==◌, if◌then◌else◌}
use Rattle.std.specs.Option.{option_map}
use Rattle.mx_base.specs.declared.refusal.Refusal.{Refusal}
use Rattle.mx_base.specs.declared.refusal.Refusal.TheVariants.{BadIndexRow, BadSpaceRow, DuplicateKey, OutOfMemory, PrimaryIndexLast, SpaceHasIndexes, SpaceMissing}
use Rattle.mx_key.specs.Keys.{Key, Integer}
use Rattle.mx_schema.specs.declared.index_def.IndexDef.{IndexDef}
use Rattle.mx_schema.specs.declared.index_def.IndexRow.{IndexRow}
use Rattle.mx_schema.specs.declared.schema.Schema.{Schema}
use Rattle.mx_schema.specs.declared.space_def.SpaceDef.{SpaceDef}
use Rattle.mx_schema.specs.Catalogues.{index_with, schema_of}
use Rattle.mx_schema.specs.IndexRows.{index_in}
use Rattle.mx_schema.specs.SchemaChecks.{fields_in, first_number}
use Rattle.mx_schema.specs.SpaceRows.{space_in}
use Rattle.mx_schema.specs.State.{State, Tuples, index_rows, space_rows, tuples_in}
use Rattle.mx_entries.specs.declared.build_fault.BuildFault.{BuildFault}
use Rattle.mx_entries.specs.declared.build_fault.BuildFault.TheVariants.{Duplicate, LacksKey, NoMemory}
use Rattle.mx_entries.specs.Builds.{build_fault}
use Rattle.mx_write.specs.Checks.{fault_refusal}
use Rattle.mx_write.specs.Lookup.{other_indexes}

-- ---- rows that are added

-- why a row describes no space
abbrev pub space_row_fault : (row : List ℕ) → Option Refusal
space_row_fault row = if is_some (space_in row) then None else Some BadSpaceRow

-- an index beside the primary one, which isn't there
abbrev pub lacks_primary : List IndexDef → IndexDef → Bool
lacks_primary indexes def = not (def.id.0 == 0) && is_none (index_with 0 indexes)

abbrev pub index_fault_beside : List IndexDef → Option IndexRow → Option Refusal
index_fault_beside indexes None = Some BadIndexRow
index_fault_beside indexes (Some row) = if lacks_primary indexes row.def then Some BadIndexRow else None

abbrev pub index_fault_on : (space : ℕ) → Option Schema → Option IndexRow → Option Refusal
index_fault_on space None row = Some (SpaceMissing (record { 0 = space }))
index_fault_on space (Some schema) row = index_fault_beside schema.indexes row

abbrev pub index_fault_by : State → Option IndexRow → (space : Option ℕ) → Option Refusal
index_fault_by before row None = Some BadIndexRow
index_fault_by before row (Some space) = index_fault_on space (schema_of before space) row

-- why a row describes no index that can be added: first of all its space has to be there
abbrev pub index_row_fault : State → (row : List ℕ) → Option Refusal
index_row_fault before row = index_fault_by before (index_in row) (first_number (fields_in row))

-- why a tuple that is added to a space doesn't describe what the space's tuples describe
abbrev pub description_fault : State → (space : ℕ) → (tuple : List ℕ) → Option Refusal
description_fault before space tuple =
    if space == space_rows then space_row_fault tuple
    else if space == index_rows then index_row_fault before tuple
    else None

-- ---- an index of the tuples that are there

abbrev pub build_refusal : Schema → IndexDef → BuildFault → Refusal
build_refusal schema def (LacksKey why) = fault_refusal why
build_refusal schema def Duplicate = DuplicateKey def.name schema.def.name
build_refusal schema def NoMemory = OutOfMemory

abbrev pub build_fault_on : Tuples → IndexDef → Option Schema → Option Refusal
build_fault_on tuples def None = None
build_fault_on tuples def (Some schema) = option_map (build_refusal schema def) (build_fault def tuples)

abbrev pub build_fault_by : State → Option IndexRow → Option Refusal
build_fault_by before None = None
build_fault_by before (Some row) = build_fault_on (tuples_in before row.space.0) row.def (schema_of before row.space.0)

-- why the index that a tuple describes can't be made: the fault of the first tuple that has one
abbrev pub new_index_fault : State → (space : ℕ) → (tuple : List ℕ) → Option Refusal
new_index_fault before space tuple = if space == index_rows then build_fault_by before (index_in tuple) else None

-- ---- rows that are taken out

-- a space goes after its indexes
abbrev pub unless_indexed : (name : List ℕ) → List IndexDef → Option Refusal
unless_indexed name [] = None
unless_indexed name (def ∷ others) = Some (SpaceHasIndexes name)

abbrev pub space_drop_on : Option Schema → Option Refusal
space_drop_on None = None
space_drop_on (Some schema) = unless_indexed schema.def.name schema.indexes

abbrev pub space_drop_fault : State → Option SpaceDef → Option Refusal
space_drop_fault before None = None
space_drop_fault before (Some def) = space_drop_on (schema_of before def.id.0)

-- the primary index goes after the others
abbrev pub unless_others : (name : List ℕ) → (others : List IndexDef) → Option Refusal
unless_others name [] = None
unless_others name (def ∷ others) = Some (PrimaryIndexLast name)

abbrev pub index_drop_on : (index : ℕ) → Option Schema → Option Refusal
index_drop_on index None = None
index_drop_on index (Some schema) = if index == 0 then unless_others schema.def.name (other_indexes schema.indexes) else None

abbrev pub index_drop_fault : State → Option IndexRow → Option Refusal
index_drop_fault before None = None
index_drop_fault before (Some row) = index_drop_on row.def.id.0 (schema_of before row.space.0)

-- why a tuple can't be taken out of a space
abbrev pub drop_fault : State → (space : ℕ) → (tuple : List ℕ) → Option Refusal
drop_fault before space tuple =
    if space == space_rows then space_drop_fault before (space_in tuple)
    else if space == index_rows then index_drop_fault before (index_in tuple)
    else None

-- the numbers of the space and of the index whose row stands under a key
abbrev pub space_named_by : Key → ℕ
space_named_by (Integer (pos space) ∷ others) = space
space_named_by _ = 0

abbrev pub index_named_by : Key → ℕ
index_named_by (first ∷ Integer (pos index) ∷ others) = index
index_named_by _ = 0
