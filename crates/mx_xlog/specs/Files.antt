-- How a file reads: a header, and whole blocks after it.
use Rattle.std.specs.Prelude.{◌≡◌, ℕ, ⊤, List, drop, Option, Some, None}
use Rattle.uuid.specs.Text.{hyphenated_text, lower}
use Rattle.mx_xlog.specs.declared.head.Head.{Head}
use Rattle.mx_xlog.specs.Headers.{IsHeader, IsFaultLine}
use Rattle.mx_xlog.specs.Reading.{blocks_of}

-- a file as it reads: its header, how many bytes that has, and the data of the whole blocks after it
pub record FileRead : Type 0 where
  pub head : Head
  pub size : ℕ
  pub blocks : List (List ℕ)

-- the bytes read so; they read as nothing where one of their first lines is none of a header
abbrev pub ReadsAs : List ℕ → Option FileRead → Type 0
ReadsAs bytes None = (line : ℕ) × IsFaultLine bytes line
ReadsAs bytes (Some file) = IsHeader bytes file.head file.size × (file.blocks ≡ blocks_of (drop file.size bytes))

-- the heads say the same; identifiers are compared by their texts
pub record SameHead (one other : Head) : Type 0 where
  pub snapshot : one.snapshot ≡ other.snapshot
  pub clock : one.clock ≡ other.clock
  pub replica : one.replica ≡ other.replica
  pub instance : hyphenated_text lower one.instance ≡ hyphenated_text lower other.instance
  pub set : hyphenated_text lower one.set ≡ hyphenated_text lower other.set

-- the same head, of as many bytes, and the same blocks
pub record SameFile (one other : FileRead) : Type 0 where
  pub head : SameHead one.head other.head
  pub size : one.size ≡ other.size
  pub blocks : one.blocks ≡ other.blocks

-- both read the same, or both read as nothing
abbrev pub SameRead : Option FileRead → Option FileRead → Type 0
SameRead None None = ⊤
SameRead (Some one) (Some other) = SameFile one other
SameRead _ _ = ⊥
