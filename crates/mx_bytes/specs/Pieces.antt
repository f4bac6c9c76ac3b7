-- Bytes in pieces of given sizes.
use Rattle.std.specs.Prelude.{ℕ, List, [], ◌∷◌, take, drop}

-- the bytes in pieces of these sizes, one after the other
abbrev pub pieces : (sizes : List ℕ) → List ℕ → List (List ℕ)
pieces [] bytes = []
pieces (size ∷ sizes) bytes = take size bytes ∷ pieces sizes (drop size bytes)
