-- A shown value as a value of one type, and the value that stands first in some bytes.
use Rattle.std.specs.Prelude.{ℕ, ℤ, Bool, List, Option, Some, None}
use Rattle.std.specs.Option.{option_and_then}
use Rattle.std.specs.Result.{result_ok}
use Rattle.mx_msgpack.specs.Reading.{Shown, ShownBool, ShownInt, ShownStr, ShownArray, ShownMap, reading_of}

-- a Bool
abbrev pub as_bool : Shown → Option Bool
as_bool (ShownBool truth) = Some truth
as_bool _ = None

-- an Int
abbrev pub as_int : Shown → Option ℤ
as_int (ShownInt number) = Some number
as_int _ = None

-- the bytes of a Str
abbrev pub as_text : Shown → Option (List ℕ)
as_text (ShownStr text) = Some text
as_text _ = None

-- how many values an Array has, and the bytes that spell them
abbrev pub as_array : Shown → Option (ℕ × List ℕ)
as_array (ShownArray count items) = Some (count, items)
as_array _ = None

-- how many pairs a Map has, and the bytes that spell them
abbrev pub as_map : Shown → Option (ℕ × List ℕ)
as_map (ShownMap count items) = Some (count, items)
as_map _ = None

-- the value that stands first, and how many bytes it takes; none at a fault
abbrev pub shown_first : List ℕ → Option (Shown × ℕ)
shown_first bytes = result_ok (reading_of bytes)

-- the value that stands first, as one of these types
abbrev pub first_as : {X : Type 0} → (Shown → Option X) → List ℕ → Option X
first_as projection bytes = option_and_then (λ first. projection first.0) (shown_first bytes)
