-- Only private functions and proofs need these: a lookup of several keys, pair by pair, and what a head tells.
use Rattle.std.specs.Prelude.{ℕ, Bool, true, false, List, [], ◌∷◌, Option, Some, None, Result, Ok, nat_le, ◌==◌, if◌then◌else◌}
use Rattle.mx_msgpack.specs.declared.bad.Bad.{Bad}
use Rattle.mx_msgpack.specs.declared.head.Head.{Head}
use Rattle.mx_msgpack.specs.declared.head.Head.TheVariants.{Array, Map}
use Rattle.mx_msgpack.specs.Grammar.{max_length}
use Rattle.mx_msgpack.specs.Reading.{head_at}

-- what was found under these keys, and now also this value under this key
abbrev pub noted : (key : ℕ) → (value : List ℕ) → (keys : List ℕ) → List (Option (List ℕ)) → List (Option (List ℕ))
noted key value [] found = found
noted key value (wanted ∷ keys) [] = []
noted key value (wanted ∷ keys) (old ∷ found) = (if key == wanted then Some value else old) ∷ noted key value keys found

-- how many pairs a head announces that is a map's, and no more than a map may have, and the bytes after it
abbrev pub map_announced : Result (Head × List ℕ) Bad → Option (ℕ × List ℕ)
map_announced (Ok (Map count, behind)) = if nat_le count max_length then Some (count, behind) else None
map_announced _ = None

abbrev pub map_head : List ℕ → Option (ℕ × List ℕ)
map_head bytes = map_announced (head_at 0 bytes)

-- the head of an array
abbrev pub is_array_head : Head → Bool
is_array_head (Array count) = true
is_array_head _ = false
