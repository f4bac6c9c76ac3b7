-- Transactions in groups, a block of a file each, and how they are packed.
use Rattle.std.specs.Prelude.{◌≡◌, ◌⊎◌, ⊤, ℕ, ◌<◌, List, [], ◌∷◌, ◌++◌, length, map}
use Rattle.std.specs.List.{concat, AllByRecursion}
use Rattle.mx_xlog.specs.Blocks.{IsData, block_of, max_data_size}
use Rattle.mx_row.specs.declared.tx.Tx.{Tx}
use Rattle.mx_row.specs.Rows.{transactions_of, transactions_text}

-- a block for each group of transactions
abbrev pub blocks_text : List (List Tx) → List ℕ
blocks_text groups = concat (map (λ group. block_of (transactions_text group)) groups)

-- these groups are the transactions in order, and the rows of each group fit into a block
pub record AreGroups (groups : List (List Tx)) (transactions : List Tx) : Type 0 where
  pub together : transactions_of groups ≡ transactions
  pub fit : AllByRecursion (λ group. IsData (transactions_text group)) groups

-- the first transaction of the groups behind doesn't fit into this group's block
abbrev pub IsFull : List Tx → List (List Tx) → Type 0
IsFull group ((transaction ∷ transactions) ∷ behind) = max_data_size < length (transactions_text (group ++ transaction ∷ []))
IsFull group _ = ⊤

-- no transaction would fit into the block before its own
abbrev pub AllFull : List (List Tx) → Type 0
AllFull [] = ⊤
AllFull (group ∷ behind) = IsFull group behind × AllFull behind

-- these groups are the transactions in order, packed into as few blocks as fit: each block has all that fit into it
pub record ArePacked (groups : List (List Tx)) (transactions : List Tx) : Type 0 where
  pub grouped : AreGroups groups transactions
  pub full : AllFull groups

-- ---- a block that isn't ended

-- whole blocks, and the rows of another one that may get more
pub record Packed : Type 0 where
  pub blocks : List ℕ
  pub rows : List ℕ

-- a block of these rows, where there are any
abbrev pub last_block : List ℕ → List ℕ
last_block [] = []
last_block (byte ∷ bytes) = block_of (byte ∷ bytes)

-- all as whole blocks
abbrev pub whole_text : Packed → List ℕ
whole_text pack = pack.blocks ++ last_block pack.rows

-- the blocks are those of all groups but the last, whose rows follow
pub record HasLast (groups : List (List Tx)) (pack : Packed) : Type 0 where
  pub earlier : List (List Tx)
  pub group : List Tx
  pub whole : groups ≡ earlier ++ group ∷ []
  pub blocks : pack.blocks ≡ blocks_text earlier
  pub rows : pack.rows ≡ transactions_text group

-- these transactions are packed, or there is none
pub record Packs (transactions : List Tx) (pack : Packed) : Type 0 where
  pub groups : List (List Tx)
  pub packed : ArePacked groups transactions
  pub parts : ((groups ≡ []) × (whole_text pack ≡ [])) ⊎ HasLast groups pack
