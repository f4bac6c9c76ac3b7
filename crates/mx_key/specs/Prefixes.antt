-- Where the first parts of a key's comparable bytes end.
use Rattle.std.specs.Prelude.{ℕ, zero, suc, ◌+◌, Bool, true, false, List, [], ◌∷◌, length, drop, take, min, ◌==◌, if◌then◌else◌}

-- a text or other bytes, with the two bytes that end it: a byte 0 that no byte 255 follows
abbrev pub content_size : (was_zero : Bool) → List ℕ → ℕ
content_size was_zero [] = 0
content_size false (byte ∷ bytes) = suc (content_size (byte == 0) bytes)
content_size true (byte ∷ bytes) = if byte == 255 then suc (content_size false bytes) else 1

-- a Boolean has 2 bytes and a number 10, the kind included
abbrev pub size_of_kind : (kind : ℕ) → List ℕ → ℕ
size_of_kind kind bytes = if kind == 2 then min 2 (length bytes) else (if kind == 3 then min 10 (length bytes) else content_size false bytes)

-- the size of the part that stands first
abbrev pub part_size : List ℕ → ℕ
part_size [] = 0
part_size (kind ∷ bytes) = size_of_kind kind (kind ∷ bytes)

-- the size of so many parts
abbrev pub prefix_size : (parts : ℕ) → List ℕ → ℕ
prefix_size zero bytes = 0
prefix_size (suc parts) bytes = part_size bytes + prefix_size parts (drop (part_size bytes) bytes)

-- the bytes of so many parts
abbrev pub prefix : (parts : ℕ) → List ℕ → List ℕ
prefix parts bytes = take (prefix_size parts bytes) bytes
