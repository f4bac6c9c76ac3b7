-- What update operations make of a tuple.
use Rattle.std.specs.Prelude.{ℕ, suc, ◌+◌, ◌-◌, ◌^◌, ℤ, pos, negsuc, ◌+ℤ◌, ◌-ℤ◌, Bool, List, [], ◌∷◌, ◌++◌, length, map, min, take, drop, set, Option, Some, None, Result, Ok, Err, bit_and, bit_or, bit_xor, nat_lt, ◌==◌, if◌then◌else◌}
use Rattle.std.specs.List.{concat, slice_get}
use Rattle.std.specs.Option.{ok_or, unwrap_or}
use Rattle.mx_msgpack.specs.Projections.{as_int, as_text, first_as}
use Rattle.mx_msgpack.specs.Readers.{as_unsigned}
use Rattle.mx_msgpack.specs.Spelling.{array_head, shortest_int, str_head}
use Rattle.mx_msgpack.specs.Items.{items_of}
use Rattle.mx_tuple.specs.Fields.{max_tuple_size}
use Rattle.mx_operations.specs.Operations.{Operation, Assign, Insert, Delete, Add, Subtract, And, Or, Xor, Splice}

-- a field: as it was sent, by its spelling, or as it was computed
pub data Field : Type 0 where
  Sent : (spelling : List ℕ) → Field
  Number : ℤ → Field
  Text : List ℕ → Field

-- why an operation can't be applied: it doesn't fit its field, or its result is no number of 64 bits
pub data Failure : Type 0 where
  Argument : Failure
  Overflow : Failure

infixl 10 ◌>>=◌
abbrev pub ◌>>=◌ : {A B E : Type 0} → Result A E → (A → Result B E) → Result B E
(Ok x) >>= f = f x
(Err e) >>= f = Err e

-- ---- places

-- Where the field of a number stands among so many: from the base on it counts from the front, and below 0 from the end. None
-- before the first one.
abbrev pub place_of : (base count : ℕ) → ℤ → Option ℕ
place_of base count (pos number) = if nat_lt number base then None else Some (number - base)
place_of base count (negsuc below) = if nat_lt count (suc below) then None else Some (count - suc below)

-- a place with so many places before the end
abbrev pub place_within : (limit : ℕ) → Option ℕ → Result ℕ Failure
place_within limit None = Err Argument
place_within limit (Some place) = if nat_lt place limit then Ok place else Err Argument

-- ---- values

abbrev pub field_number : Field → Option ℤ
field_number (Sent spelling) = first_as as_int spelling
field_number (Number number) = Some number
field_number (Text text) = None

abbrev pub field_text : Field → Option (List ℕ)
field_text (Sent spelling) = first_as as_text spelling
field_text (Number number) = None
field_text (Text text) = Some text

-- a number from -2^63 up to 2^64 - 1
abbrev pub is_64_bits : ℤ → Bool
is_64_bits (pos number) = nat_lt number (2 ^ 64)
is_64_bits (negsuc below) = nat_lt below (2 ^ 63)

abbrev pub number_field : ℤ → Result Field Failure
number_field number = if is_64_bits number then Ok (Number number) else Err Overflow

-- two numbers as one
abbrev pub computed : (ℤ → ℤ) → Field → Result Field Failure
computed compute field = do
  number ← ok_or (field_number field) Argument
  number_field (compute number)

-- two numbers of 0 or more as one, bit by bit
abbrev pub computed_by_bits : (ℕ → ℕ) → Field → Result Field Failure
computed_by_bits compute field = do
  number ← ok_or (field_number field) Argument
  bits ← ok_or (as_unsigned number) Argument
  Ok (Number (pos (compute bits)))

-- where a text of so many bytes is cut: below 0 it counts from the end, -1 being the end; not after the end
abbrev pub cut_place : (base size : ℕ) → ℤ → Option ℕ
cut_place base size (pos position) = if nat_lt position base then None else Some (min (position - base) size)
cut_place base size (negsuc below) = if nat_lt size below then None else Some (size - below)

-- how many of the bytes that are left are cut out: below 0 so many stay
abbrev pub cut_size : (left : ℕ) → ℤ → ℕ
cut_size left (pos cut) = min cut left
cut_size left (negsuc below) = left - suc below

abbrev pub text_with : (text : List ℕ) (place : ℕ) (cut : ℤ) (inserted : List ℕ) → List ℕ
text_with text place cut inserted =
    (take place text ++ inserted) ++ drop (cut_size (length text - place) cut) (drop place text)

abbrev pub spliced : (base : ℕ) (position cut : ℤ) (inserted : List ℕ) → Field → Result Field Failure
spliced base position cut inserted field = do
  text ← ok_or (field_text field) Argument
  place ← ok_or (cut_place base (length text) position) Argument
  Ok (Text (text_with text place cut inserted))

-- ---- one operation

-- the fields with a change of the one that has this number
abbrev pub with_change : (base : ℕ) → List Field → (number : ℤ) → (Field → Result Field Failure) → Result (List Field) Failure
with_change base fields number change = do
  place ← place_within (length fields) (place_of base (length fields) number)
  field ← ok_or (slice_get fields place) Argument
  changed ← change field
  Ok (set fields place changed)

-- a value in a field's place, or behind the last one
abbrev pub assigned : (fields : List Field) (place : ℕ) → Field → List Field
assigned fields place field = if place == length fields then fields ++ field ∷ [] else set fields place field

-- the fields after `=`, and after `!` and `#`
abbrev pub after_assign : (base : ℕ) → List Field → (number : ℤ) → (value : List ℕ) → Result (List Field) Failure
after_assign base fields number value = do
  place ← place_within (suc (length fields)) (place_of base (length fields) number)
  Ok (assigned fields place (Sent value))

abbrev pub after_insert : (base : ℕ) → List Field → (number : ℤ) → (value : List ℕ) → Result (List Field) Failure
after_insert base fields number value = do
  place ← place_within (suc (length fields)) (place_of base (suc (length fields)) number)
  Ok (take place fields ++ Sent value ∷ drop place fields)

abbrev pub after_delete : (base : ℕ) → List Field → (number : ℤ) → (count : ℕ) → Result (List Field) Failure
after_delete base fields number count = do
  place ← place_within (length fields) (place_of base (length fields) number)
  Ok (take place fields ++ drop (place + count) fields)

-- the fields after an operation, or why it can't be applied
abbrev pub fields_after_one : (base : ℕ) → List Field → Operation → Result (List Field) Failure
fields_after_one base fields (Assign number value) = after_assign base fields number value
fields_after_one base fields (Insert number value) = after_insert base fields number value
fields_after_one base fields (Delete number count) = after_delete base fields number count
fields_after_one base fields (Add number operand) = with_change base fields number (computed (λ n. n +ℤ operand))
fields_after_one base fields (Subtract number operand) = with_change base fields number (computed (λ n. n -ℤ operand))
fields_after_one base fields (And number operand) = with_change base fields number (computed_by_bits (λ n. bit_and n operand))
fields_after_one base fields (Or number operand) = with_change base fields number (computed_by_bits (λ n. bit_or n operand))
fields_after_one base fields (Xor number operand) = with_change base fields number (computed_by_bits (λ n. bit_xor n operand))
fields_after_one base fields (Splice number position cut text) = with_change base fields number (spliced base position cut text)

-- ---- all operations

-- why operations make no tuple: the one in this place can't be applied, or the tuple has so many bytes
pub data UpdateFailure : Type 0 where
  Failed : (place : ℕ) → Failure → UpdateFailure
  TooLong : (bytes : ℕ) → UpdateFailure

abbrev pub failed_at : {X : Type 0} → (place : ℕ) → Result X Failure → Result X UpdateFailure
failed_at place (Ok x) = Ok x
failed_at place (Err failure) = Err (Failed place failure)

-- the fields after these operations, from left to right, the first of them in this place; or the first that fails
abbrev pub fields_after : (base place : ℕ) → List Operation → List Field → Result (List Field) UpdateFailure
fields_after base place [] fields = Ok fields
fields_after base place (operation ∷ others) fields = do
  after ← failed_at place (fields_after_one base fields operation)
  fields_after base (suc place) others after

abbrev pub after_or_same : List Field → Result (List Field) Failure → List Field
after_or_same fields (Ok after) = after
after_or_same fields (Err failure) = fields

-- the same without those that fail
abbrev pub fields_after_applicable : (base : ℕ) → List Operation → List Field → List Field
fields_after_applicable base [] fields = fields
fields_after_applicable base (operation ∷ others) fields =
    fields_after_applicable base others (after_or_same fields (fields_after_one base fields operation))

abbrev pub field_spelling : Field → List ℕ
field_spelling (Sent spelling) = spelling
field_spelling (Number number) = shortest_int number
field_spelling (Text text) = str_head (length text) ++ text

-- the tuple of these fields: an array with the shortest head
abbrev pub tuple_of_fields : List Field → List ℕ
tuple_of_fields fields = array_head (length fields) ++ concat (map field_spelling fields)

abbrev pub within_size : List ℕ → Result (List ℕ) UpdateFailure
within_size tuple = if nat_lt max_tuple_size (length tuple) then Err (TooLong (length tuple)) else Ok tuple

-- the fields of a tuple as they were sent
abbrev pub fields_of : (tuple : List ℕ) → List Field
fields_of tuple = map Sent (unwrap_or (items_of tuple) [])

-- the tuple after an UPDATE's operations
unfoldable pub updated : (base : ℕ) → (tuple : List ℕ) → List Operation → Result (List ℕ) UpdateFailure
updated base tuple operations = do
  after ← fields_after base 0 operations (fields_of tuple)
  within_size (tuple_of_fields after)

-- the tuple after an UPSERT's operations
unfoldable pub upserted : (base : ℕ) → (tuple : List ℕ) → List Operation → Result (List ℕ) UpdateFailure
upserted base tuple operations = within_size (tuple_of_fields (fields_after_applicable base operations (fields_of tuple)))
