-- Spelling a value: of its spellings in the grammar, the shortest.
use Rattle.std.specs.Prelude.{ℕ, suc, ◌+◌, ◌-◌, ◌^◌, ◌<◌, ℤ, pos, negsuc, List, [], ◌∷◌, ◌++◌, length, get_or, nat_lt, if◌then◌else◌}
use Rattle.byteorder.specs.Endian.{big_bytes}
use Rattle.mx_msgpack.specs.Grammar.{Value, Nil, Boolean, Int, Str, Bin, Array, Map, Opaque, Values, NoValue, MoreValues, Pairs, NoPair, MorePairs, value_count, pair_count, Spells, max_nesting}

-- each is a byte
abbrev pub AreBytes : List ℕ → Type 0
AreBytes xs = (i : ℕ) → get_or xs i 0 < 2 ^ 8

-- a number of 0 or more: the byte itself, or 8, 16, 32 or 64 bits, the highest first
unfoldable pub shortest_unsigned : ℕ → List ℕ
shortest_unsigned number =
    if nat_lt number 0x80 then number ∷ []
    else if nat_lt number (2 ^ 8) then 0xcc ∷ big_bytes 1 number
    else if nat_lt number (2 ^ 16) then 0xcd ∷ big_bytes 2 number
    else if nat_lt number (2 ^ 32) then 0xce ∷ big_bytes 4 number
    else 0xcf ∷ big_bytes 8 number

-- the number below 0 that is one less than minus this: the byte itself for -32 to -1, or two's complement of 8, 16, 32 or 64 bits
unfoldable pub shortest_negative : ℕ → List ℕ
shortest_negative below =
    if nat_lt below 0x20 then (0xff - below) ∷ []
    else if nat_lt below (2 ^ 7) then 0xd0 ∷ big_bytes 1 (2 ^ 8 - suc below)
    else if nat_lt below (2 ^ 15) then 0xd1 ∷ big_bytes 2 (2 ^ 16 - suc below)
    else if nat_lt below (2 ^ 31) then 0xd2 ∷ big_bytes 4 (2 ^ 32 - suc below)
    else 0xd3 ∷ big_bytes 8 (2 ^ 64 - suc below)

abbrev pub shortest_int : ℤ → List ℕ
shortest_int (pos number) = shortest_unsigned number
shortest_int (negsuc below) = shortest_negative below

-- the shortest heads of a Str and of a Bin of so many bytes, of an Array of so many values, and of a Map of so many pairs
unfoldable pub str_head : ℕ → List ℕ
str_head size =
    if nat_lt size 0x20 then (0xa0 + size) ∷ []
    else if nat_lt size (2 ^ 8) then 0xd9 ∷ big_bytes 1 size
    else if nat_lt size (2 ^ 16) then 0xda ∷ big_bytes 2 size
    else 0xdb ∷ big_bytes 4 size

unfoldable pub bin_head : ℕ → List ℕ
bin_head size =
    if nat_lt size (2 ^ 8) then 0xc4 ∷ big_bytes 1 size
    else if nat_lt size (2 ^ 16) then 0xc5 ∷ big_bytes 2 size
    else 0xc6 ∷ big_bytes 4 size

unfoldable pub array_head : ℕ → List ℕ
array_head count =
    if nat_lt count 0x10 then (0x90 + count) ∷ []
    else if nat_lt count (2 ^ 16) then 0xdc ∷ big_bytes 2 count
    else 0xdd ∷ big_bytes 4 count

unfoldable pub map_head : ℕ → List ℕ
map_head count =
    if nat_lt count 0x10 then (0x80 + count) ∷ []
    else if nat_lt count (2 ^ 16) then 0xde ∷ big_bytes 2 count
    else 0xdf ∷ big_bytes 4 count

abbrev mutual
  pub shortest : Value → List ℕ
  shortest Nil = 0xc0 ∷ []
  shortest (Boolean truth) = (if truth then 0xc3 else 0xc2) ∷ []
  shortest (Int number) = shortest_int number
  shortest (Str text) = str_head (length text) ++ text
  shortest (Bin content) = bin_head (length content) ++ content
  shortest (Array values) = array_head (value_count values) ++ shortest_all values
  shortest (Map pairs) = map_head (pair_count pairs) ++ shortest_pairs pairs
  shortest (Opaque spelling) = spelling

  pub shortest_all : Values → List ℕ
  shortest_all NoValue = []
  shortest_all (MoreValues value others) = shortest value ++ shortest_all others

  pub shortest_pairs : Pairs → List ℕ
  shortest_pairs NoPair = []
  shortest_pairs (MorePairs key value others) = (shortest key ++ shortest value) ++ shortest_pairs others

-- the value can be spelled: its numbers and lengths are within the limits, and its containers stand no deeper
abbrev pub IsSpellable : Value → Type 0
IsSpellable value = (bytes : List ℕ) × AreBytes bytes × Spells max_nesting value bytes
