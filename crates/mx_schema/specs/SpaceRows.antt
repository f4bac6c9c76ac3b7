-- What a row of the space of spaces describes: its number, owner, name, engine, number of fields, flags and format.
use Rattle.std.specs.Prelude.{ℕ, Bool, true, false, not, ◌&&◌, List, [], ◌∷◌, length, Option, Some, None, codes, nat_le, ◌==◌, if◌then◌else◌}
use Rattle.mx_msgpack.specs.Projections.{as_array, as_bool, as_text, first_as}
use Rattle.mx_msgpack.specs.Readers.{◌>>=◌, unsigned_in}
use Rattle.mx_msgpack.specs.Items.{items_of, values_from}
use Rattle.mx_tuple.specs.declared.formats.FieldKind.{FieldKind}
use Rattle.mx_tuple.specs.declared.formats.FieldKind.TheVariants as kind
use Rattle.mx_tuple.specs.declared.formats.FormatEntry.{FormatEntry}
use Rattle.mx_schema.specs.declared.space_def.SpaceDef.{SpaceDef}
use Rattle.mx_schema.specs.TextMaps.{TextPair, is_same_text, text_pairs_in, value_of_key}

-- the greatest number of a space, the most fields that a space may ask for, and the maximum size of a name, in bytes
abbrev pub max_space_id : ℕ
max_space_id = 65535

abbrev pub max_field_count : ℕ
max_field_count = 65535

abbrev pub max_name_size : ℕ
max_name_size = 255

-- a number of 0 or more, up to this one
abbrev pub number_up_to : (maximum : ℕ) → List ℕ → Option ℕ
number_up_to maximum spelling = unsigned_in spelling >>= (λ number. if nat_le number maximum then Some number else None)

-- a name has a byte at least
abbrev pub name_in : List ℕ → Option (List ℕ)
name_in spelling = first_as as_text spelling >>= (λ name. if nat_le 1 (length name) && nat_le (length name) max_name_size then Some name else None)

abbrev pub is_text : (wanted : List ℕ) → Option (List ℕ) → Bool
is_text wanted None = false
is_text wanted (Some text) = is_same_text text wanted

-- this holds
abbrev pub when : Bool → Option (Unit {0})
when true = Some tt
when false = None

-- ---- flags

abbrev pub is_true : Option Bool → Bool
is_true (Some true) = true
is_true _ = false

-- a flag that is there and true
abbrev pub is_set : Option (List ℕ) → Bool
is_set None = false
is_set (Some value) = is_true (first_as as_bool value)

abbrev pub is_zero : Option ℕ → Bool
is_zero (Some number) = number == 0
is_zero None = false

-- a flag that isn't there, or is 0
abbrev pub is_absent_or_zero : Option (List ℕ) → Bool
is_absent_or_zero None = true
is_absent_or_zero (Some value) = is_zero (unsigned_in value)

-- the space is neither temporary nor of a group of its own
abbrev pub are_flags : Option (List TextPair) → Bool
are_flags None = false
are_flags (Some pairs) = not (is_set (value_of_key (codes "temporary") pairs)) && is_absent_or_zero (value_of_key (codes "group_id") pairs)

-- ---- formats

-- the type of this name
abbrev pub field_kind_of : (name : List ℕ) → Option FieldKind
field_kind_of name =
    if is_same_text name (codes "any") then Some kind.Any
    else if is_same_text name (codes "unsigned") then Some kind.Unsigned
    else if is_same_text name (codes "integer") then Some kind.Integer
    else if is_same_text name (codes "string") then Some kind.String
    else if is_same_text name (codes "boolean") then Some kind.Boolean
    else if is_same_text name (codes "varbinary") then Some kind.Varbinary
    else if is_same_text name (codes "scalar") then Some kind.Scalar
    else if is_same_text name (codes "array") then Some kind.Array
    else if is_same_text name (codes "map") then Some kind.Map
    else None

-- any type where none is named
abbrev pub field_kind_in : Option (List ℕ) → Option FieldKind
field_kind_in None = Some kind.Any
field_kind_in (Some value) = first_as as_text value >>= field_kind_of

-- whether Nil is taken: not where nothing is said of it
abbrev pub nullable_in : Option (List ℕ) → Option Bool
nullable_in None = Some false
nullable_in (Some value) = first_as as_bool value

-- what a format says of a field: its name, and perhaps its type and whether it takes Nil
abbrev pub entry_in : List ℕ → Option FormatEntry
entry_in spelling = do
  pairs ← text_pairs_in spelling
  named ← value_of_key (codes "name") pairs
  name ← first_as as_text named
  type ← field_kind_in (value_of_key (codes "type") pairs)
  nullable ← nullable_in (value_of_key (codes "is_nullable") pairs)
  Some (record { name = name; kind = type; nullable = nullable })

abbrev pub entries_among : List (List ℕ) → Option (List FormatEntry)
entries_among [] = Some []
entries_among (spelling ∷ others) = do
  entry ← entry_in spelling
  entries ← entries_among others
  Some (entry ∷ entries)

abbrev pub format_in : List ℕ → Option (List FormatEntry)
format_in spelling = first_as as_array spelling >>= (λ array. entries_among (values_from array.0 array.1))

-- ---- rows

-- the space that these fields describe, exactly seven of them
abbrev pub space_of_fields : List (List ℕ) → Option SpaceDef
space_of_fields (id ∷ owner ∷ name ∷ engine ∷ field_count ∷ flags ∷ format ∷ []) = do
  number ← number_up_to max_space_id id
  _ ← unsigned_in owner
  called ← name_in name
  _ ← when (is_text (codes "memtx") (first_as as_text engine))
  count ← number_up_to max_field_count field_count
  _ ← when (are_flags (text_pairs_in flags))
  entries ← format_in format
  Some (record { id = record { 0 = number }; name = called; format = record { count = count; entries = entries } })
space_of_fields _ = None

-- the space that a row describes
unfoldable pub space_in : (row : List ℕ) → Option SpaceDef
space_in row = items_of row >>= space_of_fields
