-- The blocks of journal and snapshot files, and the marker at a file's end.
use Rattle.std.specs.Prelude.{◌≡◌, ℕ, ◌+◌, ◌≤◌, List, [], ◌∷◌, ◌++◌, length, map, drop}
use Rattle.std.specs.List.{concat, AllByRecursion}
use Rattle.byteorder.specs.Endian.{big_bytes}
use Rattle.mx_xlog.specs.Checksums.{checksum_of}
use Rattle.mx_xlog.specs.declared.block.Block.{Block}
use Rattle.mx_xlog.specs.declared.block.Block.TheVariants.{Rows, End, Empty, Torn}

-- the maximum size of a block's data in bytes
abbrev pub max_data_size : ℕ
max_data_size = 4194304

-- these bytes may be a block's data
pub record IsData (rows : List ℕ) : Type 0 where
  pub some : 1 ≤ length rows
  pub bounded : length rows ≤ max_data_size

-- how many bytes a block has before its data
abbrev pub head_size : ℕ
head_size = 19

-- a mark, the data's length, its checksum, an empty pad, and the data
abbrev pub block_of : List ℕ → List ℕ
block_of rows =
    (0xd5 ∷ 0xba ∷ 0x0b ∷ 0xab ∷ []) ++ (0xce ∷ big_bytes 4 (length rows)) ++ (0x00 ∷ [])
    ++ (0xce ∷ big_bytes 4 (checksum_of rows)) ++ (0xa3 ∷ 0x00 ∷ 0x00 ∷ 0x00 ∷ []) ++ rows

-- room for a block's head follows
abbrev pub IsBegun : List ℕ → List ℕ → Type 0
IsBegun before bytes = (room : List ℕ) × (length room ≡ head_size) × (bytes ≡ before ++ room)

-- at this place, behind the bytes before it, there are room for a block's head and a block's data
pub record HasRoom (at : ℕ) (before rows bytes : List ℕ) : Type 0 where
  pub room : List ℕ
  pub parts : bytes ≡ before ++ (room ++ rows)
  pub place : length before ≡ at
  pub size : length room ≡ head_size
  pub sound : IsData rows

-- the last bytes of a file that was closed
abbrev pub end_marker : List ℕ
end_marker = 0xd5 ∷ 0x10 ∷ 0xad ∷ 0xed ∷ []

-- the bytes begin with a block of this data
abbrev pub BeginsBlock : List ℕ → List ℕ → Type 0
BeginsBlock rows bytes = (rest : List ℕ) × IsData rows × (bytes ≡ block_of rows ++ rest)

-- the bytes are blocks of these data, one after the other, and then this rest, which begins with no block
pub record SplitsInto (bytes : List ℕ) (blocks : List (List ℕ)) (rest : List ℕ) : Type 0 where
  pub sound : AllByRecursion IsData blocks
  pub parts : bytes ≡ concat (map block_of blocks) ++ rest
  pub ends : (rows : List ℕ) → ¬ BeginsBlock rows rest

-- the bytes begin with the marker of a file's end
abbrev pub BeginsEnd : List ℕ → Type 0
BeginsEnd bytes = (rest : List ℕ) × (bytes ≡ end_marker ++ rest)

-- what stands at this place of the bytes: a block's data from one place to another, the marker, the bytes' end, or none of these
abbrev pub StandsAt : List ℕ → ℕ → Block → Type 0
StandsAt bytes at (Rows from to) =
    (rows : List ℕ) × BeginsBlock rows (drop at bytes) × (from ≡ at + head_size) × (to ≡ from + length rows)
StandsAt bytes at End = BeginsEnd (drop at bytes)
StandsAt bytes at Empty = at ≡ length bytes
StandsAt bytes at (Torn place) =
    (place ≡ at) × ¬ (at ≡ length bytes) × ¬ BeginsEnd (drop at bytes) × ((rows : List ℕ) → ¬ BeginsBlock rows (drop at bytes))
