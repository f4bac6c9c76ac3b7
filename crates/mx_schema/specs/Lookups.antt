-- Only private functions and proofs need these: a lookup of several keys, pair by pair.
use Rattle.std.specs.Prelude.{ℕ, List, [], ◌∷◌, Option, Some, if◌then◌else◌}
use Rattle.mx_schema.specs.TextMaps.{is_same_text}

-- what was found under these keys, and now also this value under this key
abbrev pub noted_text : (key value : List ℕ) → (keys : List (List ℕ)) → List (Option (List ℕ)) → List (Option (List ℕ))
noted_text key value [] found = found
noted_text key value (wanted ∷ keys) [] = []
noted_text key value (wanted ∷ keys) (old ∷ found) = (if is_same_text key wanted then Some value else old) ∷ noted_text key value keys found
