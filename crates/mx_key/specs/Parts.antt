-- The key that a tuple's fields make, and the one that a request gives.
use Rattle.std.specs.Prelude.{ℕ, suc, List, [], ◌∷◌, length, Option, Some, None, Result, Ok, Err, nat_lt, ◌==◌, if◌then◌else◌}
use Rattle.std.specs.List.{slice_get}
use Rattle.std.specs.Option.{ok_or, unwrap_or}
use Rattle.mx_msgpack.specs.declared.bad.Bad.{Bad}
use Rattle.mx_msgpack.specs.declared.value_type.ValueType.{ValueType}
use Rattle.mx_msgpack.specs.declared.value_type.ValueType.TheVariants as type
use Rattle.mx_msgpack.specs.Reading.{Shown, ShownBool, ShownInt, ShownStr, ShownBin, reading_of}
use Rattle.mx_msgpack.specs.Types.{takes}
use Rattle.mx_msgpack.specs.Items.{items_of}
use Rattle.mx_key.specs.declared.part.Part.{Part}
use Rattle.mx_key.specs.declared.part.PartKind.{PartKind}
use Rattle.mx_key.specs.declared.part.PartKind.TheVariants as kind
use Rattle.mx_key.specs.declared.fault.NoKey.{NoKey}
use Rattle.mx_key.specs.declared.fault.NoKey.TheVariants.{Missing, Wrong}
use Rattle.mx_key.specs.declared.fault.Misfit.{Misfit}
use Rattle.mx_key.specs.declared.fault.Misfit.TheVariants.{TooLong, WrongPart}
use Rattle.mx_key.specs.Keys.{Key, KeyPart, Boolean, Integer, Text, Binary}

-- the type of the values that a part may be
abbrev pub part_value_type : PartKind → ValueType
part_value_type kind.Unsigned = type.Unsigned
part_value_type kind.Integer = type.Integer
part_value_type kind.String = type.String
part_value_type kind.Boolean = type.Boolean
part_value_type kind.Varbinary = type.Varbinary
part_value_type kind.Scalar = type.Scalar

-- the part that a value is, where it can be one
abbrev pub part_shown : Shown → Option KeyPart
part_shown (ShownBool truth) = Some (Boolean truth)
part_shown (ShownInt number) = Some (Integer number)
part_shown (ShownStr text) = Some (Text text)
part_shown (ShownBin content) = Some (Binary content)
part_shown _ = None

-- the same, where it is of this type
abbrev pub part_of_type : PartKind → Shown → Option KeyPart
part_of_type kind shown = if takes (part_value_type kind) shown then part_shown shown else None

-- the part that a value read is
abbrev pub part_read : PartKind → Result (Shown × ℕ) Bad → Option KeyPart
part_read kind (Err bad) = None
part_read kind (Ok (shown, size)) = part_of_type kind shown

-- the part of this type that a value's spelling is
unfoldable pub part_in : PartKind → List ℕ → Option KeyPart
part_in kind spelling = part_read kind (reading_of spelling)

infixl 10 ◌>>=◌
abbrev pub ◌>>=◌ : {A B E : Type 0} → Result A E → (A → Result B E) → Result B E
(Ok x) >>= f = f x
(Err e) >>= f = Err e

-- the part that a field is, which may be missing
abbrev pub part_of : Part → Option (List ℕ) → Result KeyPart NoKey
part_of part field = do
  spelling ← ok_or field (Missing part.field)
  ok_or (part_in part.kind spelling) (Wrong part.field part.kind)

-- the key that fields make, or the first part whose field is missing or of another type
abbrev pub key_of : List Part → List (List ℕ) → Result Key NoKey
key_of [] fields = Ok []
key_of (part ∷ parts) fields = do
  first ← part_of part (slice_get fields part.field)
  others ← key_of parts fields
  Ok (first ∷ others)

-- The parts that items are, the first of them in this place; or the first one of another type. Items without a part are skipped.
abbrev pub parts_of_items : ℕ → List Part → List (List ℕ) → Result Key Misfit
parts_of_items place def [] = Ok []
parts_of_items place [] (item ∷ items) = Ok []
parts_of_items place (part ∷ parts) (item ∷ items) = do
  first ← ok_or (part_in part.kind item) (WrongPart place part.kind)
  others ← parts_of_items (suc place) parts items
  Ok (first ∷ others)

-- the key that items are, where there are any
abbrev pub key_of_items : List Part → Option (List (List ℕ)) → Result Key Misfit
key_of_items def None = Ok []
key_of_items def (Some items) = if nat_lt (length def) (length items) then Err (TooLong (length items)) else parts_of_items 0 def items

-- the key that items are, one for each part
abbrev pub whole_key_of_items : List Part → List (List ℕ) → Result Key Misfit
whole_key_of_items def items = if length items == length def then parts_of_items 0 def items else Err (TooLong (length items))

-- the whole key that an array is for an index of these parts; bytes that aren't one array have no items
abbrev pub whole_key : List Part → List ℕ → Result Key Misfit
whole_key def bytes = whole_key_of_items def (unwrap_or (items_of bytes) [])

-- The key that an array is for an index of these parts: it has no more parts than the index, and each of its part's type.
-- Bytes that aren't one array are the empty key.
abbrev pub key_of_array : List Part → List ℕ → Result Key Misfit
key_of_array def bytes = key_of_items def (items_of bytes)
