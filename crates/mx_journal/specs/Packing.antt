-- Only private functions and proofs need these: what a transaction more makes of those that wait.
use Rattle.std.specs.Prelude.{◌≡◌, ◌⊎◌, ℕ, ◌+◌, ◌≤◌, ◌<◌, Bool, true, false, List, [], ◌++◌, length, take, drop}
use Rattle.mx_xlog.specs.Blocks.{head_size, max_data_size}
use Rattle.mx_journal.specs.Groups.{Packed}

-- The bytes are whole blocks up to the place where the last one begins, room for its head, and its rows.
abbrev pub parts_of : (last : ℕ) (bytes : List ℕ) → Packed
parts_of last bytes = record { blocks = take last bytes; rows = drop (last + head_size) bytes }

-- no bytes, or a last block of as many rows as one may have
abbrev pub MayEnd : (last : ℕ) (bytes : List ℕ) → Type 0
MayEnd last bytes = (bytes ≡ []) ⊎ ((last + head_size < length bytes) × (length bytes ≤ last + head_size + max_data_size))

-- room for a block's head and then this text were put behind the bytes
abbrev pub IsBegunWith : (before text after : List ℕ) → Type 0
IsBegunWith before text after = (room : List ℕ) × (length room ≡ head_size) × (after ≡ before ++ (room ++ text))

-- the text was put behind the last block's rows, where it fits there, or it doesn't fit
abbrev pub Joins : (text : List ℕ) → (before after : Packed) → Bool → Type 0
Joins text before after true =
    (after ≡ record { blocks = before.blocks; rows = before.rows ++ text }) × (length (before.rows ++ text) ≤ max_data_size)
Joins text before after false = (after ≡ before) × (max_data_size < length (before.rows ++ text))
