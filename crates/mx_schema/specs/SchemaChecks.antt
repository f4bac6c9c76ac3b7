-- Which rows describe a new space or a new index, and why others are refused.
use Rattle.std.specs.Prelude.{◌≡◌, ◌⊎◌, ℕ, suc, Bool, true, false, not, ◌&&◌, List, [], ◌∷◌, length, Option, Some, None, Result, Ok, Err, codes, is_none, is_some, nat_lt, ◌==◌, if◌then◌else◌}
use Rattle.std.specs.List.{Contains}
use Rattle.std.specs.FinMap.{empty, get, insert, values}
use Rattle.std.specs.Option.{ok_or, option_or, unwrap_or}
use Rattle.mx_msgpack.specs.Grammar.{Value, Spells, max_nesting}
use Rattle.mx_msgpack.specs.Spelling.{shortest}
use Rattle.mx_msgpack.specs.Items.{items_of}
use Rattle.mx_base.specs.declared.kinds.Unsupported.TheVariants.{SystemSpaceWrite}
use Rattle.mx_base.specs.declared.refusal.Refusal.{Refusal}
use Rattle.mx_base.specs.declared.refusal.Refusal.TheVariants.{BadIndexRow, BadSpaceRow, DuplicateKey, SpaceExists, SpaceMissing, Unsupported}
use Rattle.mx_schema.specs.declared.index_def.IndexDef.{IndexDef}
use Rattle.mx_schema.specs.declared.index_def.IndexRow.{IndexRow}
use Rattle.mx_schema.specs.declared.schema.Schema.{Schema}
use Rattle.mx_schema.specs.declared.space_def.SpaceDef.{SpaceDef}
use Rattle.mx_schema.specs.TextMaps.{is_same_text}
use Rattle.mx_schema.specs.SpaceRows.{space_in, space_of_fields}
use Rattle.mx_schema.specs.IndexRows.{index_in, index_of_fields, space_number}
use Rattle.mx_schema.specs.Catalogues.{Catalogue, index_with, space_among}
use Rattle.mx_schema.specs.Bootstrap.{first_indexes, first_spaces, rows_of}

-- the number of the first space that users may make: those below are the database's own
abbrev pub first_user_space : ℕ
first_user_space = 512

-- ---- a new space

-- the first of these spaces that has this name
abbrev pub space_named : (name : List ℕ) → List Schema → Option SpaceDef
space_named name [] = None
space_named name (schema ∷ others) = if is_same_text schema.def.name name then Some schema.def else space_named name others

-- the space that is there already, by its number or else by its name
abbrev pub unless_there : SpaceDef → (other : Option SpaceDef) → Result SpaceDef Refusal
unless_there def None = Ok def
unless_there def (Some other) = Err (SpaceExists other.name)

abbrev pub judged_space : Catalogue → Option SpaceDef → Result SpaceDef Refusal
judged_space catalogue None = Err BadSpaceRow
judged_space catalogue (Some def) =
    if nat_lt def.id.0 first_user_space then Err BadSpaceRow
    else unless_there def (option_or (space_among catalogue def.id.0) (space_named def.name (values catalogue)))

-- the space that the fields of a row describe, which isn't there yet
abbrev pub new_space : Catalogue → (fields : List (List ℕ)) → Result SpaceDef Refusal
new_space catalogue fields = judged_space catalogue (space_of_fields fields)

-- ---- a new index

abbrev pub has_name : (name : List ℕ) → List IndexDef → Bool
has_name name [] = false
has_name name (def ∷ others) = if is_same_text def.name name then true else has_name name others

-- the refusal of an index whose number or name is there already in the space, by the index of the space of indexes that has both
abbrev pub index_exists : (by : List ℕ) → Refusal
index_exists by = DuplicateKey by (codes "_index")

-- an index that isn't there yet: another one than the first needs the first
abbrev pub judged_index : List IndexDef → Option IndexRow → Result IndexRow Refusal
judged_index indexes None = Err BadIndexRow
judged_index indexes (Some row) =
    if not (row.def.id.0 == 0) && is_none (index_with 0 indexes) then Err BadIndexRow
    else if is_some (index_with row.def.id.0 indexes) then Err (index_exists (codes "primary"))
    else if has_name row.def.name indexes then Err (index_exists (codes "name"))
    else Ok row

abbrev pub index_on_schema : (space : ℕ) (fields : List (List ℕ)) → Option Schema → Result IndexRow Refusal
index_on_schema space fields None = Err (SpaceMissing (record { 0 = space }))
index_on_schema space fields (Some schema) = judged_index schema.indexes (index_of_fields fields)

abbrev pub index_on : Catalogue → (fields : List (List ℕ)) → (space : Option ℕ) → Result IndexRow Refusal
index_on catalogue fields None = Err BadIndexRow
index_on catalogue fields (Some space) = index_on_schema space fields (get catalogue space)

-- the number of a space that stands first in a row
abbrev pub first_number : List (List ℕ) → Option ℕ
first_number [] = None
first_number (field ∷ others) = space_number field

-- the index that the fields of a row describe, which isn't there yet
abbrev pub new_index : Catalogue → (fields : List (List ℕ)) → Result IndexRow Refusal
new_index catalogue fields = index_on catalogue fields (first_number fields)

-- ---- the catalogue of rows

-- a row that spells the same value as one of these
abbrev pub IsOneOf : List Value → (row : List ℕ) → Type 0
IsOneOf rows row = (value : Value) × Spells max_nesting value row × Contains (rows_of rows) (shortest value)

-- the first of these holds where P does, else the other one
abbrev pub IfElse : (P this other : Type 0) → Type 0
IfElse P this other = (P × this) ⊎ ((P → ⊥) × other)

abbrev pub fields_in : (row : List ℕ) → List (List ℕ)
fields_in row = unwrap_or (items_of row) []

-- what a row of the space of spaces comes to after others: a new database's own rows are taken as they are
abbrev pub JudgesSpace : Catalogue → (row : List ℕ) → Result SpaceDef Refusal → Type 0
JudgesSpace catalogue row judged =
    IfElse (IsOneOf first_spaces row) (judged ≡ ok_or (space_in row) BadSpaceRow) (judged ≡ new_space catalogue (fields_in row))

-- an index of a space below the users' ones can't be added
abbrev pub user_index : Catalogue → (fields : List (List ℕ)) → (space : Option ℕ) → Result IndexRow Refusal
user_index catalogue fields None = Err BadIndexRow
user_index catalogue fields (Some space) =
    if nat_lt space first_user_space then Err (Unsupported SystemSpaceWrite) else index_on_schema space fields (get catalogue space)

abbrev pub JudgesIndex : Catalogue → (row : List ℕ) → Result IndexRow Refusal → Type 0
JudgesIndex catalogue row judged =
    IfElse (IsOneOf first_indexes row) (judged ≡ ok_or (index_in row) BadIndexRow)
    (judged ≡ user_index catalogue (fields_in row) (first_number (fields_in row)))

abbrev pub with_space : Catalogue → SpaceDef → Catalogue
with_space catalogue def = insert catalogue def.id.0 (record { def = def; indexes = [] })

-- the indexes by ascending numbers, with a further one
abbrev pub indexes_with : IndexDef → List IndexDef → List IndexDef
indexes_with def [] = def ∷ []
indexes_with def (other ∷ others) =
    if nat_lt def.id.0 other.id.0 then def ∷ other ∷ others else other ∷ indexes_with def others

abbrev pub with_index_on : Catalogue → IndexRow → Option Schema → Catalogue
with_index_on catalogue row None = catalogue
with_index_on catalogue row (Some schema) =
    insert catalogue row.space.0 (record { def = schema.def; indexes = indexes_with row.def schema.indexes })

abbrev pub with_index_row : Catalogue → IndexRow → Catalogue
with_index_row catalogue row = with_index_on catalogue row (get catalogue row.space.0)

-- the place of a row that is refused, and why
pub record RowFault : Type 0 where
  pub place : ℕ
  pub refusal : Refusal

-- Rows make a catalogue one after the other, the first of them in this place; the first one that is refused ends it.
module _ {D : Type 0} (Judges : Catalogue → List ℕ → Result D Refusal → Type 0) (add : Catalogue → D → Catalogue) where
  abbrev pub RowsMake : (place : ℕ) → List (List ℕ) → (before : Catalogue) → Result Catalogue RowFault → Type 0
  RowsMake place [] before result = result ≡ Ok before
  RowsMake place (row ∷ others) before result =
      ((refusal : Refusal) × Judges before row (Err refusal) × (result ≡ Err (record { place = place; refusal = refusal })))
      ⊎ ((def : D) × Judges before row (Ok def) × RowsMake (suc place) others (add before def) result)

abbrev pub IndexesMake : (place : ℕ) → List (List ℕ) → Result Catalogue RowFault → Result Catalogue RowFault → Type 0
IndexesMake place rows (Err fault) result = result ≡ Err fault
IndexesMake place rows (Ok catalogue) result = RowsMake JudgesIndex with_index_row place rows catalogue result

-- The catalogue that rows of the two spaces make, or the first one that is refused, the rows of spaces counted before those of
-- indexes.
abbrev pub IsMade : (spaces indexes : List (List ℕ)) → Result Catalogue RowFault → Type 0
IsMade spaces indexes result =
    (after : Result Catalogue RowFault) × RowsMake JudgesSpace with_space 0 spaces empty after × IndexesMake (length spaces) indexes after result
