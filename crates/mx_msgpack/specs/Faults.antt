-- Why no value stands first: the first fault from the left, in the grammar's words.
use Rattle.std.specs.Prelude.{◌≡◌, ◌⊎◌, ℕ, zero, suc, ◌+◌, ◌*◌, ◌<◌, ◌≤◌, ℤ, Bool, List, [], ◌∷◌, ◌++◌, length, if◌then◌else◌}
use Rattle.mx_msgpack.specs.declared.bad.Bad.{Bad}
use Rattle.mx_msgpack.specs.declared.bad.Bad.TheVariants.{Unused, Short, Deep, Long}
use Rattle.mx_msgpack.specs.Grammar.{Values, value_count, max_length, SpellsNumber, SpellsInt, StrHead, BinHead, ArrayHead, MapHead, SpellsAll}

-- this leading byte, after which always stand so many bytes
abbrev pub SpellsFixed : (leading wanted : ℕ) → ℕ → List ℕ → Type 0
SpellsFixed leading wanted size head = (size ≡ wanted) × (head ≡ leading ∷ [])

-- the heads of a float or of an extension of a fixed length, after which so many bytes stand
abbrev pub FixedHead : ℕ → List ℕ → Type 0
FixedHead size head =
    SpellsFixed 0xca 4 size head ⊎ SpellsFixed 0xcb 8 size head
    ⊎ SpellsFixed 0xd4 2 size head ⊎ SpellsFixed 0xd5 3 size head ⊎ SpellsFixed 0xd6 5 size head ⊎ SpellsFixed 0xd7 9 size head ⊎ SpellsFixed 0xd8 17 size head

-- the heads of an extension that tells its length
abbrev pub ExtensionHead : ℕ → List ℕ → Type 0
ExtensionHead size head = SpellsNumber 0xc7 1 size head ⊎ SpellsNumber 0xc8 2 size head ⊎ SpellsNumber 0xc9 4 size head

-- The head of a Str, a Bin, a float or an extension of this length, after which so many bytes follow: those of an extension
-- that tells its length have its type before them.
abbrev pub BytesHead : (size follow : ℕ) → List ℕ → Type 0
BytesHead size follow head =
    ((StrHead size head ⊎ BinHead size head ⊎ FixedHead size head) × (follow ≡ size)) ⊎ (ExtensionHead size head × (follow ≡ suc size))

-- the head of an Array of so many values or of a Map of so many pairs, after which so many values follow
abbrev pub ContainerHead : (count follow : ℕ) → List ℕ → Type 0
ContainerHead count follow head = (ArrayHead count head × (follow ≡ count)) ⊎ (MapHead count head × (follow ≡ 2 * count))

-- the bytes are the head of a value; nil, a truth and a number are all head
abbrev pub IsAnyHead : List ℕ → Type 0
IsAnyHead head =
    (head ≡ 0xc0 ∷ [])
    ⊎ ((truth : Bool) × (head ≡ (if truth then 0xc3 else 0xc2) ∷ []))
    ⊎ ((number : ℤ) × SpellsInt number head)
    ⊎ ((size follow : ℕ) × BytesHead size follow head)
    ⊎ ((count follow : ℕ) × ContainerHead count follow head)

-- the bytes end inside a head, or before it
abbrev pub EndInHead : List ℕ → Type 0
EndInHead bytes = (missing : List ℕ) × (1 ≤ length missing) × IsAnyHead (bytes ++ missing)

-- no value begins with the byte; a number above ff is no byte
abbrev pub IsUnused : ℕ → Type 0
IsUnused leading = (leading ≡ 0xc1) ⊎ (0x100 ≤ leading)

-- The first fault of bytes that begin no value. `at` is the place of their first byte, and at most `room` containers stand
-- one inside the other. For each head the cases stand in the order in which they are looked for.
pub data IsFault : (room at : ℕ) → List ℕ → Bad → Type 0 where
  -- no value begins with the first byte
  begins_none : {room at leading : ℕ} {rest : List ℕ} → IsUnused leading → IsFault room at (leading ∷ rest) (Unused at)
  -- the bytes end before the head does
  ends_in_head : {room at : ℕ} {bytes : List ℕ} → EndInHead bytes → IsFault room at bytes Short
  -- a container stands where there is no room for one
  too_deep : {at : ℕ} {bytes : List ℕ} (count follow : ℕ) (head rest : List ℕ)
      → ContainerHead count follow head → bytes ≡ head ++ rest → IsFault zero at bytes (Deep at)
  -- it has more values or pairs than may be
  too_many : {room at : ℕ} {bytes : List ℕ} (count follow : ℕ) (head rest : List ℕ)
      → ContainerHead count follow head → bytes ≡ head ++ rest → max_length < count → IsFault (suc room) at bytes (Long at)
  -- it has a fault inside, after fewer values than follow its head
  inside : {room at : ℕ} {bytes : List ℕ} {bad : Bad} (count follow : ℕ) (head front rest : List ℕ) (values : Values)
      → ContainerHead count follow head → bytes ≡ head ++ (front ++ rest) → count ≤ max_length
      → SpellsAll room values front → value_count values < follow → IsFault room (at + (length head + length front)) rest bad
      → IsFault (suc room) at bytes bad
  -- a text, bytes or an extension is longer than it may be
  too_long : {room at : ℕ} {bytes : List ℕ} (size follow : ℕ) (head rest : List ℕ)
      → BytesHead size follow head → bytes ≡ head ++ rest → max_length < size → IsFault room at bytes (Long at)
  -- the bytes end before it does
  ends_in_content : {room at : ℕ} {bytes : List ℕ} (size follow : ℕ) (head rest : List ℕ)
      → BytesHead size follow head → bytes ≡ head ++ rest → size ≤ max_length → length rest < follow → IsFault room at bytes Short
