-- For private contracts and proofs alone: the bytes before a block's data.
use Rattle.std.specs.Prelude.{ℕ, List, [], ◌∷◌, ◌++◌}
use Rattle.byteorder.specs.Endian.{big_bytes}
use Rattle.mx_xlog.specs.Blocks.{BeginsBlock}

-- a mark, a length, a checksum and an empty pad
abbrev pub block_head : ℕ → ℕ → List ℕ
block_head size sum =
    (0xd5 ∷ 0xba ∷ 0x0b ∷ 0xab ∷ []) ++ (0xce ∷ big_bytes 4 size) ++ (0x00 ∷ []) ++ (0xce ∷ big_bytes 4 sum)
    ++ (0xa3 ∷ 0x00 ∷ 0x00 ∷ 0x00 ∷ [])

-- the bytes begin with no block
abbrev pub BeginsNoBlock : List ℕ → Type 0
BeginsNoBlock bytes = (rows : List ℕ) → ¬ BeginsBlock rows bytes
