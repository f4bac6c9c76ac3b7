-- Tuples and their fields.
use Rattle.std.specs.Prelude.{◌≡◌, ℕ, ◌+◌, ◌-◌, ◌^◌, List, [], ◌∷◌, ◌++◌, length, Some}
use Rattle.std.specs.List.{concat, scan}
use Rattle.std.specs.Option.{unwrap_or}
use Rattle.mx_msgpack.specs.Items.{items_of}

-- a tuple as its bytes, and its fields, each by its spelling
pub record TupleValue : Type 0 where
  pub bytes : List ℕ
  pub fields : List (List ℕ)

-- the maximum size of a tuple, in bytes
abbrev pub max_tuple_size : ℕ
max_tuple_size = 1048576

-- the maximum number of a tuple's fields, and so of a format's entries
abbrev pub max_fields : ℕ
max_fields = 2 ^ 32 - 1

-- the tuple of an array's bytes
abbrev pub tuple_of : List ℕ → TupleValue
tuple_of bytes = record { bytes = bytes; fields = unwrap_or (items_of bytes) [] }

-- where a field ends
abbrev pub end_from : ℕ → List ℕ → ℕ
end_from place field = place + length field

-- where fields in a row from a place on begin, and where the last one ends
abbrev pub places_from : ℕ → List (List ℕ) → List ℕ
places_from place fields = place ∷ scan end_from end_from place fields

-- the tuple's bytes are an array of its fields, which stand in a row after its head and begin and end at these places
pub record HasPlaces (tuple : TupleValue) (places : List ℕ) : Type 0 where
  pub items : items_of tuple.bytes ≡ Some tuple.fields
  pub head : List ℕ
  pub in_row : tuple.bytes ≡ head ++ concat tuple.fields
  pub places_are : places ≡ places_from (length head) tuple.fields
