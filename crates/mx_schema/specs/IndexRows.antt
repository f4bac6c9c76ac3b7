-- What a row of the space of indexes describes: its space, number, name, type, options and parts.
use Rattle.std.specs.Prelude.{ℕ, ◌^◌, ◌-◌, Bool, true, not, ◌&&◌, ◌||◌, List, [], ◌∷◌, Option, Some, None, codes, is_some, nat_le, ◌==◌, if◌then◌else◌}
use Rattle.std.specs.Str.{str_eq_ignore_ascii_case}
use Rattle.mx_msgpack.specs.Projections.{as_array, as_bool, as_text, first_as}
use Rattle.mx_msgpack.specs.Readers.{◌>>=◌}
use Rattle.mx_msgpack.specs.Reading.{Shown, ShownArray, ShownMap}
use Rattle.mx_msgpack.specs.Items.{items_of, values_from}
use Rattle.mx_key.specs.declared.part.Part.{Part}
use Rattle.mx_key.specs.declared.part.PartKind.{PartKind}
use Rattle.mx_key.specs.declared.part.PartKind.TheVariants as kind
use Rattle.mx_schema.specs.declared.index_def.IndexKind.{IndexKind}
use Rattle.mx_schema.specs.declared.index_def.IndexRow.{IndexRow}
use Rattle.mx_schema.specs.declared.index_def.IndexKind.TheVariants.{Tree, Hash}
use Rattle.mx_schema.specs.TextMaps.{TextPair, is_same_text, text_pairs_from, text_pairs_in, value_of_key}
use Rattle.mx_schema.specs.SpaceRows.{is_set, name_in, number_up_to, when}

-- the greatest number of an index, the most parts that it may have, and the greatest number of a part's field
abbrev pub max_index_id : ℕ
max_index_id = 127

abbrev pub max_parts : ℕ
max_parts = 16

abbrev pub max_part_field : ℕ
max_part_field = 65535

-- the type of this name, in letters of either case
abbrev pub index_kind_of : (name : List ℕ) → Option IndexKind
index_kind_of name =
    if str_eq_ignore_ascii_case name (codes "tree") then Some Tree
    else if str_eq_ignore_ascii_case name (codes "hash") then Some Hash
    else None

-- the type of a part of this name
abbrev pub part_kind_of : (name : List ℕ) → Option PartKind
part_kind_of name =
    if is_same_text name (codes "unsigned") then Some kind.Unsigned
    else if is_same_text name (codes "integer") then Some kind.Integer
    else if is_same_text name (codes "string") then Some kind.String
    else if is_same_text name (codes "boolean") then Some kind.Boolean
    else if is_same_text name (codes "varbinary") then Some kind.Varbinary
    else if is_same_text name (codes "scalar") then Some kind.Scalar
    else None

-- a field's number and a type's name
abbrev pub part_of_values : (field type : List ℕ) → Option Part
part_of_values field type = do
  number ← number_up_to max_part_field field
  name ← first_as as_text type
  called ← part_kind_of name
  Some (record { field = number; kind = called })

-- a part as an array that begins with them
abbrev pub part_in_array : List (List ℕ) → Option Part
part_in_array (field ∷ type ∷ others) = part_of_values field type
part_in_array _ = None

-- a part as a map that has them, and asks for nothing that isn't there
abbrev pub part_in_map : List TextPair → Option Part
part_in_map pairs = do
  _ ← when (not (is_some (value_of_key (codes "collation") pairs)))
  _ ← when (not (is_some (value_of_key (codes "path") pairs)))
  _ ← when (not (is_set (value_of_key (codes "is_nullable") pairs)))
  field ← value_of_key (codes "field") pairs
  type ← value_of_key (codes "type") pairs
  part_of_values field type

abbrev pub index_part_shown : Shown → Option Part
index_part_shown (ShownArray count items) = part_in_array (values_from count items)
index_part_shown (ShownMap count items) = part_in_map (text_pairs_from count items)
index_part_shown _ = None

abbrev pub parts_among : List (List ℕ) → Option (List Part)
parts_among [] = Some []
parts_among (spelling ∷ others) = do
  part ← first_as index_part_shown spelling
  parts ← parts_among others
  Some (part ∷ parts)

-- one part at least
abbrev pub parts_in : List ℕ → Option (List Part)
parts_in spelling = do
  array ← first_as as_array spelling
  _ ← when (nat_le 1 array.0 && nat_le array.0 max_parts)
  parts_among (values_from array.0 array.1)

-- whether no two tuples have one key: so it is where nothing is said of it
abbrev pub unique_in : Option (List ℕ) → Option Bool
unique_in None = Some true
unique_in (Some value) = first_as as_bool value

-- an index that is always unique: the one with the number 0, and one of hashes
abbrev pub is_always_unique : (id : ℕ) → IndexKind → Bool
is_always_unique id Hash = true
is_always_unique id Tree = id == 0

-- the number of a space of 32 bits
abbrev pub space_number : List ℕ → Option ℕ
space_number spelling = number_up_to (2 ^ 32 - 1) spelling

-- the index that these fields describe, exactly six of them
abbrev pub index_of_fields : List (List ℕ) → Option IndexRow
index_of_fields (space ∷ id ∷ name ∷ type ∷ options ∷ parts ∷ []) = do
  owner ← space_number space
  number ← number_up_to max_index_id id
  called ← name_in name
  type_name ← first_as as_text type
  sort ← index_kind_of type_name
  pairs ← text_pairs_in options
  unique ← unique_in (value_of_key (codes "unique") pairs)
  key ← parts_in parts
  _ ← when (unique || not (is_always_unique number sort))
  Some (record { space = record { 0 = owner }; def = record { id = record { 0 = number }; name = called; kind = sort; unique = unique; key = key } })
index_of_fields _ = None

-- the index that a row describes
unfoldable pub index_in : (row : List ℕ) → Option IndexRow
index_in row = items_of row >>= index_of_fields
