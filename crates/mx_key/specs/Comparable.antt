-- Keys as bytes whose order is that of the keys.
use Rattle.std.specs.Prelude.{◌≡◌, ℕ, zero, suc, ◌+◌, ◌-◌, ◌^◌, ℤ, pos, negsuc, Bool, true, not, ◌&&◌, List, [], ◌∷◌, ◌++◌, Option, Some, None, if◌then◌else◌}
use Rattle.std.specs.Ordering.{nat_cmp, is_lt, is_gt}
use Rattle.std.specs.Cmp.Lexicographic.{slice_cmp}
use Rattle.std.specs.declared.ops.Bound.{Bound}
use Rattle.std.specs.declared.ops.Bound.TheVariants.{Included, Excluded, Unbounded}
use Rattle.byteorder.specs.Endian.{big_bytes}
use Rattle.mx_msgpack.specs.declared.value.Value.{Value, Bool as Flag, Int, Str, Bin}
use Rattle.mx_key.specs.declared.edge.Edge.{Edge}
use Rattle.mx_key.specs.declared.edge.Edge.TheVariants as edge
use Rattle.mx_key.specs.declared.edge.KeyRange.{KeyRange}
use Rattle.mx_key.specs.Keys.{Key, KeyPart, Boolean, Integer, Text, Binary}
use Rattle.mx_key.specs.Ranges.{End, Inclusive, Exclusive, Open, Range}

-- how far a number of 64 bits is above the least one
abbrev pub number_above_least : ℤ → ℕ
number_above_least (pos number) = 2 ^ 63 + number
number_above_least (negsuc below) = 2 ^ 63 - suc below

-- each byte 0 is followed by a byte 255
abbrev pub with_escapes : List ℕ → List ℕ
with_escapes [] = []
with_escapes (zero ∷ bytes) = 0 ∷ 255 ∷ with_escapes bytes
with_escapes (suc byte ∷ bytes) = suc byte ∷ with_escapes bytes

-- a text or other bytes, with two bytes 0 at the end
abbrev pub content_bytes : List ℕ → List ℕ
content_bytes bytes = with_escapes bytes ++ 0 ∷ 0 ∷ []

-- a byte for the rank, and then the value
abbrev pub part_bytes : KeyPart → List ℕ
part_bytes (Boolean truth) = 2 ∷ (if truth then 1 else 0) ∷ []
part_bytes (Integer number) = 3 ∷ big_bytes 9 (number_above_least number)
part_bytes (Text text) = 4 ∷ content_bytes text
part_bytes (Binary content) = 5 ∷ content_bytes content

-- the parts' bytes, one after the other
abbrev pub comparable_of : Key → List ℕ
comparable_of [] = []
comparable_of (part ∷ parts) = part_bytes part ++ comparable_of parts

-- where the keys end that have this prefix: no part's bytes begin with 255
abbrev pub prefix_end : Key → List ℕ
prefix_end key = comparable_of key ++ 255 ∷ []

-- an end of a range of keys as one of their bytes
abbrev pub low_edge : End → Edge
low_edge (Inclusive key) = edge.Inclusive (comparable_of key)
low_edge (Exclusive key) = edge.Exclusive (prefix_end key)
low_edge Open = edge.Open

abbrev pub high_edge : End → Edge
high_edge (Inclusive key) = edge.Exclusive (prefix_end key)
high_edge (Exclusive key) = edge.Exclusive (comparable_of key)
high_edge Open = edge.Open

-- a range of keys as one of their bytes
abbrev pub edges_of : Range → KeyRange
edges_of range = record { low = low_edge range.low; high = high_edge range.high }

-- the bytes are not below a low end
abbrev pub is_within_low : Edge → List ℕ → Bool
is_within_low (edge.Inclusive end) bytes = not (is_lt (slice_cmp nat_cmp bytes end))
is_within_low (edge.Exclusive end) bytes = is_gt (slice_cmp nat_cmp bytes end)
is_within_low edge.Open bytes = true

-- the bytes are not above a high end
abbrev pub is_within_high : Edge → List ℕ → Bool
is_within_high (edge.Inclusive end) bytes = not (is_gt (slice_cmp nat_cmp bytes end))
is_within_high (edge.Exclusive end) bytes = is_lt (slice_cmp nat_cmp bytes end)
is_within_high edge.Open bytes = true

-- the bytes lie in a range
abbrev pub holds : KeyRange → List ℕ → Bool
holds range bytes = is_within_low range.low bytes && is_within_high range.high bytes

-- an end as the bound of a map's range
abbrev pub bound_of : Edge → Bound (List ℕ)
bound_of (edge.Inclusive end) = Included end
bound_of (edge.Exclusive end) = Excluded end
bound_of edge.Open = Unbounded

-- the part that an owned value is, where it can be one
abbrev pub part_of_value : Value → Option KeyPart
part_of_value (Flag truth) = Some (Boolean truth)
part_of_value (Int number) = Some (Integer number)
part_of_value (Str text) = Some (Text text)
part_of_value (Bin content) = Some (Binary content)
part_of_value _ = None

-- the values are the parts of this key
abbrev pub AreParts : List Value → Key → Type 0
AreParts [] [] = Unit {0}
AreParts (value ∷ values) (part ∷ parts) = (part_of_value value ≡ Some part) × AreParts values parts
AreParts _ _ = ⊥
