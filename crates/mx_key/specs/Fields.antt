-- The fields of a tuple, by the places in its bytes where they begin and end.
use Rattle.std.specs.Prelude.{ℕ, ◌-◌, List, [], ◌∷◌, take, drop}

-- the bytes from each place to the next one; of what lies outside or out of order only what is there
abbrev pub slices : List ℕ → (places : List ℕ) → List (List ℕ)
slices bytes [] = []
slices bytes (from ∷ []) = []
slices bytes (from ∷ to ∷ places) = take (to - from) (drop from bytes) ∷ slices bytes (to ∷ places)
