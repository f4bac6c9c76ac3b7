-- Only private functions and proofs need these: what bytes say as the head of an Array, a Str or a Map that they may end inside.
use Rattle.std.specs.Prelude.{◌≡◌, ◌⊎◌, ⊤, ℕ, ◌+◌, ◌<◌, ◌≤◌, List, ◌++◌, length, take, Option, Some, None}
use Rattle.mx_msgpack.specs.Grammar.{ArrayHead, MapHead, StrHead}
use Rattle.mx_msgpack.specs.Spelling.{AreBytes}
use Rattle.mx_completion.specs.declared.head.Head.{Head}
use Rattle.mx_completion.specs.declared.head.Head.TheVariants.{Cut, Full}
use Rattle.mx_completion.specs.declared.leading.Kind.{Kind}
use Rattle.mx_completion.specs.declared.leading.Kind.TheVariants.{Array, Map, Text}

-- a value of this type has a head that announces a count
abbrev pub HasHead : Kind → Type 0
HasHead Array = ⊤
HasHead Text = ⊤
HasHead Map = ⊤
HasHead _ = ⊥

-- the bytes are a head that announces so many values, bytes or pairs
abbrev pub IsCountHead : Kind → (count : ℕ) → List ℕ → Type 0
IsCountHead Array count head = ArrayHead count head
IsCountHead Text count head = StrHead count head
IsCountHead Map count head = MapHead count head
IsCountHead _ count head = ⊥

-- the head stands in the bytes, and no other does
pub record IsFullHead (kind : Kind) (bytes : List ℕ) (count size : ℕ) : Type 0 where
  pub within : size ≤ length bytes
  pub spelled : IsCountHead kind count (take size bytes)
  pub only : (missing spelling rest : List ℕ) (other : ℕ) → bytes ++ missing ≡ spelling ++ rest → IsCountHead kind other spelling → (spelling ≡ take size bytes) × (other ≡ count)

-- the bytes end before the head does: it announces this count or a greater one
pub record IsCutHead (kind : Kind) (bytes : List ℕ) (count missing : ℕ) : Type 0 where
  pub some : 1 ≤ missing
  pub reaches : (more : ℕ) → more < 16 → (digits : List ℕ) × AreBytes digits × (length digits ≡ missing) × IsCountHead kind (count + more) (bytes ++ digits)
  pub only : (others spelling rest : List ℕ) (other : ℕ) → AreBytes others → bytes ++ others ≡ spelling ++ rest → IsCountHead kind other spelling
      → (more : List ℕ) × (spelling ≡ bytes ++ more) × (length bytes + missing ≤ length spelling) × (count ≤ other)
  pub high : (count ≡ 0) ⊎ (256 ≤ count)

-- what the bytes say, whatever follows them
abbrev pub Announces : Kind → List ℕ → Option Head → Type 0
Announces kind bytes None = (missing spelling rest : List ℕ) (count : ℕ) → bytes ++ missing ≡ spelling ++ rest → IsCountHead kind count spelling → ⊥
Announces kind bytes (Some (Full count size)) = IsFullHead kind bytes count size
Announces kind bytes (Some (Cut count missing)) = IsCutHead kind bytes count missing

-- the head is no longer than heads are
abbrev pub IsShortHead : Head → Type 0
IsShortHead (Cut count missing) = missing ≤ 4
IsShortHead (Full count size) = size ≤ 5
