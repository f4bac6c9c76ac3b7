-- The MessagePack grammar: which bytes spell which value (MessagePack specification, "Formats").
use Rattle.std.specs.Prelude.{◌≡◌, ◌⊎◌, ℕ, zero, suc, ◌+◌, ◌<◌, ◌≤◌, ℤ, pos, ◌-ℤ◌, Bool, List, [], ◌∷◌, ◌++◌, length, if◌then◌else◌}
use Rattle.byteorder.specs.Endian.{big_number, twos_complement}

mutual
  pub data Value : Type 0 where
    Nil : Value
    Boolean : Bool → Value
    Int : ℤ → Value
    Str : List ℕ → Value
    Bin : List ℕ → Value
    Array : Values → Value
    Map : Pairs → Value
    -- a float or an extension, as its whole spelling
    Opaque : List ℕ → Value

  pub data Values : Type 0 where
    NoValue : Values
    MoreValues : Value → Values → Values

  pub data Pairs : Type 0 where
    NoPair : Pairs
    MorePairs : Value → Value → Pairs → Pairs

abbrev pub value_count : Values → ℕ
value_count NoValue = 0
value_count (MoreValues value others) = suc (value_count others)

abbrev pub pair_count : Pairs → ℕ
pair_count NoPair = 0
pair_count (MorePairs key value others) = suc (pair_count others)

-- how many bytes a Str, a Bin or an extension may have, and how many values an Array, or pairs a Map
abbrev pub max_length : ℕ
max_length = 2097152

-- a leading byte, and then the number in this many bytes, the highest first
abbrev pub SpellsNumber : ℕ → ℕ → ℕ → List ℕ → Type 0
SpellsNumber leading width number bytes =
    (digits : List ℕ) × (length digits ≡ width) × (number ≡ big_number width digits) × (bytes ≡ leading ∷ digits)

-- the same as two's complement
abbrev pub SpellsSigned : ℕ → ℕ → ℤ → List ℕ → Type 0
SpellsSigned leading width number bytes = (unsigned : ℕ) × SpellsNumber leading width unsigned bytes × (number ≡ twos_complement width unsigned)

-- the five spellings of a number of 0 or more: the byte itself, or 8, 16, 32 or 64 bits
abbrev pub SpellsUnsigned : ℕ → List ℕ → Type 0
SpellsUnsigned number bytes =
    ((number < 0x80) × (bytes ≡ number ∷ []))
    ⊎ SpellsNumber 0xcc 1 number bytes
    ⊎ SpellsNumber 0xcd 2 number bytes
    ⊎ SpellsNumber 0xce 4 number bytes
    ⊎ SpellsNumber 0xcf 8 number bytes

-- the spellings of a number: those of 0 or more, the byte itself for -32 to -1, and 8, 16, 32 or 64 bits with a sign
abbrev pub SpellsInt : ℤ → List ℕ → Type 0
SpellsInt number bytes =
    ((unsigned : ℕ) × (number ≡ pos unsigned) × SpellsUnsigned unsigned bytes)
    ⊎ ((byte : ℕ) × (0xe0 ≤ byte) × (byte < 0x100) × (number ≡ pos byte -ℤ pos 0x100) × (bytes ≡ byte ∷ []))
    ⊎ SpellsSigned 0xd0 1 number bytes
    ⊎ SpellsSigned 0xd1 2 number bytes
    ⊎ SpellsSigned 0xd2 4 number bytes
    ⊎ SpellsSigned 0xd3 8 number bytes

-- a leading byte that holds the length too, where it is this short
abbrev pub SpellsFew : (leading limit : ℕ) → ℕ → List ℕ → Type 0
SpellsFew leading limit size head = (size < limit) × (head ≡ (leading + size) ∷ [])

-- the heads of a Str of so many bytes, of a Bin, of an Array of so many values and of a Map of so many pairs
abbrev pub StrHead : ℕ → List ℕ → Type 0
StrHead size head = SpellsFew 0xa0 0x20 size head ⊎ SpellsNumber 0xd9 1 size head ⊎ SpellsNumber 0xda 2 size head ⊎ SpellsNumber 0xdb 4 size head

abbrev pub BinHead : ℕ → List ℕ → Type 0
BinHead size head = SpellsNumber 0xc4 1 size head ⊎ SpellsNumber 0xc5 2 size head ⊎ SpellsNumber 0xc6 4 size head

abbrev pub ArrayHead : ℕ → List ℕ → Type 0
ArrayHead count head = SpellsFew 0x90 0x10 count head ⊎ SpellsNumber 0xdc 2 count head ⊎ SpellsNumber 0xdd 4 count head

abbrev pub MapHead : ℕ → List ℕ → Type 0
MapHead count head = SpellsFew 0x80 0x10 count head ⊎ SpellsNumber 0xde 2 count head ⊎ SpellsNumber 0xdf 4 count head

-- a float, or an extension of a fixed length: a leading byte, and so many bytes
abbrev pub IsFixed : (leading size : ℕ) → List ℕ → Type 0
IsFixed leading size bytes = (content : List ℕ) × (length content ≡ size) × (bytes ≡ leading ∷ content)

-- an extension: a length, a type, and so many bytes
abbrev pub IsExtension : (leading width : ℕ) → List ℕ → Type 0
IsExtension leading width bytes =
    (size : ℕ) × (head content : List ℕ) × SpellsNumber leading width size head × (size ≤ max_length) × (length content ≡ suc size)
    × (bytes ≡ head ++ content)

-- floats and extensions
abbrev pub IsOpaque : List ℕ → Type 0
IsOpaque bytes =
    IsFixed 0xca 4 bytes ⊎ IsFixed 0xcb 8 bytes
    ⊎ IsFixed 0xd4 2 bytes ⊎ IsFixed 0xd5 3 bytes ⊎ IsFixed 0xd6 5 bytes ⊎ IsFixed 0xd7 9 bytes ⊎ IsFixed 0xd8 17 bytes
    ⊎ IsExtension 0xc7 1 bytes ⊎ IsExtension 0xc8 2 bytes ⊎ IsExtension 0xc9 4 bytes

-- The bytes, all of them, spell the value. At most `room` containers stand one inside the other.
abbrev mutual
  pub Spells : ℕ → Value → List ℕ → Type 0
  Spells room Nil bytes = bytes ≡ 0xc0 ∷ []
  Spells room (Boolean truth) bytes = bytes ≡ (if truth then 0xc3 else 0xc2) ∷ []
  Spells room (Int number) bytes = SpellsInt number bytes
  Spells room (Str text) bytes = (head : List ℕ) × StrHead (length text) head × (length text ≤ max_length) × (bytes ≡ head ++ text)
  Spells room (Bin content) bytes = (head : List ℕ) × BinHead (length content) head × (length content ≤ max_length) × (bytes ≡ head ++ content)
  Spells zero (Array values) bytes = ⊥
  Spells (suc room) (Array values) bytes =
      (head content : List ℕ) × ArrayHead (value_count values) head × (value_count values ≤ max_length) × (bytes ≡ head ++ content)
      × SpellsAll room values content
  Spells zero (Map pairs) bytes = ⊥
  Spells (suc room) (Map pairs) bytes =
      (head content : List ℕ) × MapHead (pair_count pairs) head × (pair_count pairs ≤ max_length) × (bytes ≡ head ++ content)
      × SpellsPairs room pairs content
  Spells room (Opaque spelling) bytes = IsOpaque spelling × (bytes ≡ spelling)

  -- the bytes spell the values, one after the other
  pub SpellsAll : ℕ → Values → List ℕ → Type 0
  SpellsAll room NoValue bytes = bytes ≡ []
  SpellsAll room (MoreValues value others) bytes =
      (front rest : List ℕ) × (bytes ≡ front ++ rest) × Spells room value front × SpellsAll room others rest

  -- the bytes spell each pair's key and then its value, one pair after the other
  pub SpellsPairs : ℕ → Pairs → List ℕ → Type 0
  SpellsPairs room NoPair bytes = bytes ≡ []
  SpellsPairs room (MorePairs key value others) bytes =
      (front middle rest : List ℕ) × (bytes ≡ (front ++ middle) ++ rest) × Spells room key front × Spells room value middle × SpellsPairs room others rest

-- how many containers may stand one inside the other
abbrev pub max_nesting : ℕ
max_nesting = 64
