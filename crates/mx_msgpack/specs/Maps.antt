-- Maps by their keys, as headers and bodies have them. A key that isn't a number of 0 or more is skipped.
use Rattle.std.specs.Prelude.{⊤, ℕ, zero, suc, Bool, false, List, [], ◌∷◌, take, drop, Option, Some, None, ◌==◌, if◌then◌else◌, IfSome}
use Rattle.std.specs.Option.{option_map_or, option_or}
use Rattle.mx_msgpack.specs.Projections.{as_map, shown_first, first_as}
use Rattle.mx_msgpack.specs.Readers.{Reader, ◌>>=◌, unsigned_in}
use Rattle.mx_msgpack.specs.Items.{IsOneValue, first_value, after_value}

-- a pair: its key, where that is a number of 0 or more, and its value's spelling
pub record Pair : Type 0 where
  pub key : Option ℕ
  pub value : List ℕ

-- so many pairs that stand in a row
abbrev pub pairs_from : (count : ℕ) → List ℕ → List Pair
pairs_from zero bytes = []
pairs_from (suc count) bytes =
    record { key = unsigned_in bytes; value = first_value (after_value bytes) } ∷ pairs_from count (after_value (after_value bytes))

-- the pairs of the map that stands first; none where no map does, so that no bytes count as an empty map
abbrev pub pairs_in : List ℕ → List Pair
pairs_in bytes = option_map_or (λ map. pairs_from map.0 map.1) (first_as as_map bytes) []

-- the spelling of the map that stands first, and the bytes after it
unfoldable pub map_at : Reader (List ℕ)
map_at bytes = do
  first ← shown_first bytes
  map ← as_map first.0
  Some (take first.1 bytes, drop first.1 bytes)

-- each of these that is there is one value and nothing else
abbrev pub AreValues : List (Option (List ℕ)) → Type 0
AreValues [] = ⊤
AreValues (value ∷ others) = IfSome value IsOneValue × AreValues others

-- this key
abbrev pub is_key : ℕ → Option ℕ → Bool
is_key wanted None = false
is_key wanted (Some key) = key == wanted

-- the value of a key; the last pair of a key counts
abbrev pub value_under : (key : ℕ) → List Pair → Option (List ℕ)
value_under key [] = None
value_under key (pair ∷ others) = option_or (value_under key others) (if is_key key pair.key then Some pair.value else None)
