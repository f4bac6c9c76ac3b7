-- Maps whose keys are texts. A key that isn't a text is skipped, and of a key that comes more than once the last value counts.
use Rattle.std.specs.Prelude.{ℕ, zero, suc, Bool, false, List, [], ◌∷◌, Option, Some, None, if◌then◌else◌}
use Rattle.std.specs.Option.{option_map, option_or}
use Rattle.std.specs.Str.{bytes_eq}
use Rattle.mx_msgpack.specs.Projections.{as_map, as_text, first_as}
use Rattle.mx_msgpack.specs.Items.{first_value, after_value}

-- a pair: its key, where that is a text, and its value's spelling
pub record TextPair : Type 0 where
  pub key : Option (List ℕ)
  pub value : List ℕ

-- so many pairs that stand in a row
abbrev pub text_pairs_from : (count : ℕ) → List ℕ → List TextPair
text_pairs_from zero bytes = []
text_pairs_from (suc count) bytes =
    record { key = first_as as_text bytes; value = first_value (after_value bytes) } ∷ text_pairs_from count (after_value (after_value bytes))

-- the pairs of a map
abbrev pub text_pairs_in : (map : List ℕ) → Option (List TextPair)
text_pairs_in map = option_map (λ found. text_pairs_from found.0 found.1) (first_as as_map map)

-- two texts are the same
abbrev pub is_same_text : List ℕ → List ℕ → Bool
is_same_text = bytes_eq

abbrev pub is_text_key : (wanted : List ℕ) → Option (List ℕ) → Bool
is_text_key wanted None = false
is_text_key wanted (Some key) = is_same_text key wanted

-- the value of a key
abbrev pub value_of_key : (key : List ℕ) → List TextPair → Option (List ℕ)
value_of_key key [] = None
value_of_key key (pair ∷ others) =
    option_or (value_of_key key others) (if is_text_key key pair.key then Some pair.value else None)
