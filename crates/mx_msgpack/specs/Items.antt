-- The values that stand in a row, each by its spelling, and the items of an array.
use Rattle.std.specs.Prelude.{◌≡◌, ⊤, ℕ, zero, suc, List, [], ◌∷◌, length, take, drop, Option, Some, None, Result, Ok, Err, ◌==◌, if◌then◌else◌}
use Rattle.std.specs.Option.{option_map}
use Rattle.mx_msgpack.specs.declared.bad.Bad.{Bad}
use Rattle.mx_msgpack.specs.Grammar.{Values, NoValue, MoreValues, Spells}
use Rattle.mx_msgpack.specs.Reading.{measured}
use Rattle.mx_msgpack.specs.Projections.{as_array, shown_first}
use Rattle.mx_msgpack.specs.Readers.{◌>>=◌}

-- the spelling of the value that stands first, and the bytes after it; nothing where none does
abbrev pub parted : List ℕ → Result ℕ Bad → List ℕ × List ℕ
parted bytes (Err bad) = ([], [])
parted bytes (Ok size) = (take size bytes, drop size bytes)

abbrev pub first_value : List ℕ → List ℕ
first_value bytes = (parted bytes (measured bytes)).0

abbrev pub after_value : List ℕ → List ℕ
after_value bytes = (parted bytes (measured bytes)).1

-- the bytes are one value and nothing else
abbrev pub IsOneValue : List ℕ → Type 0
IsOneValue bytes = measured bytes ≡ Ok (length bytes)

-- so many values that stand in a row, each by its spelling
abbrev pub values_from : (count : ℕ) → List ℕ → List (List ℕ)
values_from zero bytes = []
values_from (suc count) bytes = first_value bytes ∷ values_from count (after_value bytes)

-- how many items the array has that these bytes are, and the bytes in which they stand; nothing where they aren't one array
unfoldable pub array_of : List ℕ → Option (ℕ × List ℕ)
array_of bytes = do
  first ← shown_first bytes
  array ← as_array first.0
  if first.1 == length bytes then Some array else None

-- the bytes are one array and nothing else
abbrev pub IsArray : List ℕ → Type 0
IsArray bytes = (array : ℕ × List ℕ) × (array_of bytes ≡ Some array)

-- the items, each by its spelling
abbrev pub items_of : List ℕ → Option (List (List ℕ))
items_of bytes = option_map (λ array. values_from array.0 array.1) (array_of bytes)

-- each spelling is that of the value in its place
abbrev pub SpellEach : ℕ → Values → List (List ℕ) → Type 0
SpellEach room NoValue [] = ⊤
SpellEach room (MoreValues value values) (spelling ∷ others) = Spells room value spelling × SpellEach room values others
SpellEach _ _ _ = ⊥
