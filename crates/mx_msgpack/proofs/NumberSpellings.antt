-- The shortest spellings of numbers and heads: each is a spelling, and none in bytes is shorter.
use Rattle.std.proofs.Common.{◌≡◌, ℕ, suc, ◌+◌, ◌^◌, ◌-◌, ◌*◌, ◌<◌, ◌≤◌, false, nat_lt, List, ◌∷◌, length, refl, ap, inl, inr, arith}
use Rattle.std.specs.Prelude.{ℤ, pos, negsuc, ◌-ℤ◌, if◌then◌else◌}
use Rattle.std.proofs.lemmas.Bool.{cond_both, ltb-true, ltb-false, le-ltb}
use Rattle.std.proofs.lemmas.Int.{ints}
use Rattle.byteorder.specs.Endian.{big_bytes}
use Rattle.byteorder.specs.Numbers.{big_from-lt, length-bytes_high_first}
use Rattle.mx_msgpack.specs.Grammar.{SpellsNumber, SpellsSigned, SpellsUnsigned, SpellsInt, StrHead, BinHead, ArrayHead, MapHead, max_length}
use Rattle.mx_msgpack.specs.Writing.{Fits64}
use Rattle.mx_msgpack.proofs.NumberLaws as number_laws
use Rattle.mx_msgpack.proofs.NumberLaws.{digits-bytes, FitsBytes}
use Rattle.mx_msgpack.proofs.UnsignedLaws.{wide_length}
use Rattle.mx_msgpack.proofs.SpellingLaws.{wide_spelled, shortest_spelled}
use Rattle.mx_msgpack.specs.Spelling.{AreBytes, shortest_unsigned, shortest_negative, shortest_int, str_head, bin_head, array_head, map_head}

-- a number in bytes is below the first that they don't hold
wide_below : (leading width number : ℕ) (bytes : List ℕ) → AreBytes bytes → SpellsNumber leading width number bytes → number < 256 ^ width
wide_below leading width number bytes each (digits, len, same, e) =
    rw same (big_from-lt 0 width digits (λ k. let byte = digits-bytes leading digits bytes e each k in omega arith))

-- a bound on its length, from the least number of each width
unsigned_within : (number most : ℕ) → 1 ≤ most → (0x80 ≤ number → 2 ≤ most) → (2 ^ 8 ≤ number → 3 ≤ most) → (2 ^ 16 ≤ number → 5 ≤ most) → (2 ^ 32 ≤ number → 9 ≤ most)
    → length (shortest_unsigned number) ≤ most
unfolding shortest_unsigned
unsigned_within number most one two three five nine =
    let P = λ (bytes : List ℕ). length bytes ≤ most in
    cond_both (nat_lt number 0x80) _ _ P (λ _. one) (λ f.
    let g = two (ltb-false _ _ f) in
    cond_both (nat_lt number (2 ^ 8)) _ _ P (λ _. let l = length-bytes_high_first 1 number in omega arith) (λ f.
    let g = three (ltb-false _ _ f) in
    cond_both (nat_lt number (2 ^ 16)) _ _ P (λ _. let l = length-bytes_high_first 2 number in omega arith) (λ f.
    let g = five (ltb-false _ _ f) in
    cond_both (nat_lt number (2 ^ 32)) _ _ P (λ _. let l = length-bytes_high_first 4 number in omega arith) (λ f.
    let g = nine (ltb-false _ _ f) in
    let l = length-bytes_high_first 8 number in omega arith))))

shortest_least : (number : ℕ) (bytes : List ℕ) → AreBytes bytes → SpellsUnsigned number bytes → length (shortest_unsigned number) ≤ length bytes
shortest_least number bytes each (inl (lt, e)) =
    let l : length bytes ≡ 1 = ap length e in
    unsigned_within number (length bytes) (omega arith) (λ h. omega arith) (λ h. omega arith) (λ h. omega arith) (λ h. omega arith)
shortest_least number bytes each (inr (inl s)) =
    let l : length bytes ≡ 2 = wide_length 0xcc 1 number bytes s in
    let below : number < 2 ^ 8 = wide_below 0xcc 1 number bytes each s in
    unsigned_within number (length bytes) (omega arith) (λ _. omega arith) (λ h. omega arith) (λ h. omega arith) (λ h. omega arith)
shortest_least number bytes each (inr (inr (inl s))) =
    let l : length bytes ≡ 3 = wide_length 0xcd 2 number bytes s in
    let below : number < 2 ^ 16 = wide_below 0xcd 2 number bytes each s in
    unsigned_within number (length bytes) (omega arith) (λ _. omega arith) (λ _. omega arith) (λ h. omega arith) (λ h. omega arith)
shortest_least number bytes each (inr (inr (inr (inl s)))) =
    let l : length bytes ≡ 5 = wide_length 0xce 4 number bytes s in
    let below : number < 2 ^ 32 = wide_below 0xce 4 number bytes each s in
    unsigned_within number (length bytes) (omega arith) (λ _. omega arith) (λ _. omega arith) (λ _. omega arith) (λ h. omega arith)
shortest_least number bytes each (inr (inr (inr (inr s)))) =
    let l : length bytes ≡ 9 = wide_length 0xcf 8 number bytes s in
    unsigned_within number (length bytes) (omega arith) (λ _. omega arith) (λ _. omega arith) (λ _. omega arith) (λ _. omega arith)

-- ---- numbers with a sign

-- at least -(half) and below it
abbrev pub Within : ℕ → ℤ → Type 0
Within half (pos number) = number < half
Within half (negsuc below) = below < half

from_sign : (half whole unsigned : ℕ) (number : ℤ) → half + half ≡ whole → unsigned < whole
    → number ≡ (if nat_lt unsigned half then pos unsigned else pos unsigned -ℤ pos whole) → Within half number
from_sign half whole unsigned (pos number) twice fits e =
    let P = λ (z : ℤ). pos number ≡ z → number < half in
    cond_both (nat_lt unsigned half) _ _ P (λ t h. omega (arith, ints, ltb-true _ _ t)) (λ f h. omega (arith, ints)) e
from_sign half whole unsigned (negsuc below) twice fits e =
    let P = λ (z : ℤ). negsuc below ≡ z → below < half in
    cond_both (nat_lt unsigned half) _ _ P (λ t h. omega (arith, ints)) (λ f h. omega (arith, ints, ltb-false _ _ f)) e

signed_within : (leading width half : ℕ) (number : ℤ) (bytes : List ℕ) → half ≡ 2 ^ (8 * width - 1) → half + half ≡ 2 ^ (8 * width) → 2 ^ (8 * width) ≡ 256 ^ width
    → AreBytes bytes → SpellsSigned leading width number bytes → (length bytes ≡ suc width) × Within half number
signed_within leading width half number bytes is twice whole each (unsigned, s, e) =
    let fits : unsigned < 2 ^ (8 * width) = rw whole (wide_below leading width unsigned bytes each s) in
    (wide_length leading width unsigned bytes s, rw is (from_sign (2 ^ (8 * width - 1)) (2 ^ (8 * width)) unsigned number (rw (← is) twice) fits e))

byte_within : (byte : ℕ) (number : ℤ) → 0xe0 ≤ byte → byte < 0x100 → number ≡ pos byte -ℤ pos 0x100 → (below : ℕ) × (number ≡ negsuc below) × (below < 0x20)
byte_within byte number least most e = (0xff - byte, omega (arith, ints), omega arith)

-- two's complement of a number below 0
to_sign : (half whole below : ℕ) → half + half ≡ whole → below < half
    → negsuc below ≡ (if nat_lt (whole - suc below) half then pos (whole - suc below) else pos (whole - suc below) -ℤ pos whole)
to_sign half whole below twice low =
    let high : nat_lt (whole - suc below) half ≡ false = le-ltb _ _ (omega arith) in
    rw high (omega (arith, ints))

signed_spelled : (leading width below : ℕ) → 2 ^ (8 * width - 1) + 2 ^ (8 * width - 1) ≡ 2 ^ (8 * width) → 2 ^ (8 * width) ≡ 256 ^ width → below < 2 ^ (8 * width - 1)
    → SpellsSigned leading width (negsuc below) (leading ∷ big_bytes width (2 ^ (8 * width) - suc below))
signed_spelled leading width below twice whole low = (
  2 ^ (8 * width) - suc below,
  wide_spelled leading width (2 ^ (8 * width) - suc below) (rw (← whole) (omega arith)),
  to_sign (2 ^ (8 * width - 1)) (2 ^ (8 * width)) below twice low,
)

negative_spelled : (below : ℕ) → below < 2 ^ 63 → SpellsInt (negsuc below) (shortest_negative below)
unfolding shortest_negative
negative_spelled below low =
    let P = λ (bytes : List ℕ). SpellsInt (negsuc below) bytes in
    cond_both (nat_lt below 0x20) _ _ P
    (λ t. inr (inl (0xff - below, omega (arith, ltb-true _ _ t), omega (arith, ltb-true _ _ t), omega (arith, ints, ltb-true _ _ t), refl))) (λ _.
    cond_both (nat_lt below (2 ^ 7)) _ _ P (λ t. inr (inr (inl (signed_spelled 0xd0 1 below refl refl (ltb-true _ _ t))))) (λ _.
    cond_both (nat_lt below (2 ^ 15)) _ _ P (λ t. inr (inr (inr (inl (signed_spelled 0xd1 2 below refl refl (ltb-true _ _ t)))))) (λ _.
    cond_both (nat_lt below (2 ^ 31)) _ _ P (λ t. inr (inr (inr (inr (inl (signed_spelled 0xd2 4 below refl refl (ltb-true _ _ t))))))) (λ _.
    inr (inr (inr (inr (inr (signed_spelled 0xd3 8 below refl refl low)))))))))

negative_within : (below most : ℕ) → 1 ≤ most → (0x20 ≤ below → 2 ≤ most) → (2 ^ 7 ≤ below → 3 ≤ most) → (2 ^ 15 ≤ below → 5 ≤ most) → (2 ^ 31 ≤ below → 9 ≤ most)
    → length (shortest_negative below) ≤ most
unfolding shortest_negative
negative_within below most one two three five nine =
    let P = λ (bytes : List ℕ). length bytes ≤ most in
    cond_both (nat_lt below 0x20) _ _ P (λ _. one) (λ f.
    let g = two (ltb-false _ _ f) in
    cond_both (nat_lt below (2 ^ 7)) _ _ P (λ _. let l = length-bytes_high_first 1 (2 ^ 8 - suc below) in omega arith) (λ f.
    let g = three (ltb-false _ _ f) in
    cond_both (nat_lt below (2 ^ 15)) _ _ P (λ _. let l = length-bytes_high_first 2 (2 ^ 16 - suc below) in omega arith) (λ f.
    let g = five (ltb-false _ _ f) in
    cond_both (nat_lt below (2 ^ 31)) _ _ P (λ _. let l = length-bytes_high_first 4 (2 ^ 32 - suc below) in omega arith) (λ f.
    let g = nine (ltb-false _ _ f) in
    let l = length-bytes_high_first 8 (2 ^ 64 - suc below) in omega arith))))

-- a number that stands in bytes fits 64 bits
pub int_fits : (number : ℤ) (bytes : List ℕ) → AreBytes bytes → SpellsInt number bytes → Fits64 number
int_fits number bytes each s = by_sign (number_laws.int_fits number bytes each s)
  where
    by_sign : FitsBytes number → Fits64 number
    by_sign (inl (n, e, fits)) = rw e fits
    by_sign (inr (n, e, fits)) = rw e fits

fitting_spelled : (number : ℤ) → Fits64 number → SpellsInt number (shortest_int number)
fitting_spelled (pos number) fits = inl (number, refl, shortest_spelled number fits)
fitting_spelled (negsuc below) fits = negative_spelled below fits

pub int_spelled : (number : ℤ) (bytes : List ℕ) → AreBytes bytes → SpellsInt number bytes → SpellsInt number (shortest_int number)
int_spelled number bytes each s = fitting_spelled number (int_fits number bytes each s)

one_byte : (number : ℤ) (most : ℕ) → Within 0x20 number → 1 ≤ most → length (shortest_int number) ≤ most
one_byte (pos number) most low one = unsigned_within number most one (λ h. omega arith) (λ h. omega arith) (λ h. omega arith) (λ h. omega arith)
one_byte (negsuc below) most low one = negative_within below most one (λ h. omega arith) (λ h. omega arith) (λ h. omega arith) (λ h. omega arith)

two_bytes : (number : ℤ) (most : ℕ) → Within (2 ^ 7) number → 2 ≤ most → length (shortest_int number) ≤ most
two_bytes (pos number) most low two = unsigned_within number most (omega arith) (λ _. two) (λ h. omega arith) (λ h. omega arith) (λ h. omega arith)
two_bytes (negsuc below) most low two = negative_within below most (omega arith) (λ _. two) (λ h. omega arith) (λ h. omega arith) (λ h. omega arith)

three_bytes : (number : ℤ) (most : ℕ) → Within (2 ^ 15) number → 3 ≤ most → length (shortest_int number) ≤ most
three_bytes (pos number) most low three = unsigned_within number most (omega arith) (λ _. omega arith) (λ _. three) (λ h. omega arith) (λ h. omega arith)
three_bytes (negsuc below) most low three = negative_within below most (omega arith) (λ _. omega arith) (λ _. three) (λ h. omega arith) (λ h. omega arith)

five_bytes : (number : ℤ) (most : ℕ) → Within (2 ^ 31) number → 5 ≤ most → length (shortest_int number) ≤ most
five_bytes (pos number) most low five = unsigned_within number most (omega arith) (λ _. omega arith) (λ _. omega arith) (λ _. five) (λ h. omega arith)
five_bytes (negsuc below) most low five = negative_within below most (omega arith) (λ _. omega arith) (λ _. omega arith) (λ _. five) (λ h. omega arith)

nine_bytes : (number : ℤ) (most : ℕ) → 9 ≤ most → length (shortest_int number) ≤ most
nine_bytes (pos number) most nine = unsigned_within number most (omega arith) (λ _. omega arith) (λ _. omega arith) (λ _. omega arith) (λ _. nine)
nine_bytes (negsuc below) most nine = negative_within below most (omega arith) (λ _. omega arith) (λ _. omega arith) (λ _. omega arith) (λ _. nine)

pub int_least : (number : ℤ) (bytes : List ℕ) → AreBytes bytes → SpellsInt number bytes → length (shortest_int number) ≤ length bytes
int_least number bytes each (inl (unsigned, e, s)) = rw e (shortest_least unsigned bytes each s)
int_least number bytes each (inr (inl (byte, least, most, e, f))) =
    let b = byte_within byte number least most e in
    let l : length bytes ≡ 1 = ap length f in
    rw b.1 (one_byte (negsuc b.0) (length bytes) b.2 (omega arith))
int_least number bytes each (inr (inr (inl s))) =
    let w = signed_within 0xd0 1 (2 ^ 7) number bytes refl refl refl each s in
    two_bytes number (length bytes) w.1 (omega (arith, w.0))
int_least number bytes each (inr (inr (inr (inl s)))) =
    let w = signed_within 0xd1 2 (2 ^ 15) number bytes refl refl refl each s in
    three_bytes number (length bytes) w.1 (omega (arith, w.0))
int_least number bytes each (inr (inr (inr (inr (inl s))))) =
    let w = signed_within 0xd2 4 (2 ^ 31) number bytes refl refl refl each s in
    five_bytes number (length bytes) w.1 (omega (arith, w.0))
int_least number bytes each (inr (inr (inr (inr (inr s))))) =
    let w = signed_within 0xd3 8 (2 ^ 63) number bytes refl refl refl each s in
    nine_bytes number (length bytes) (omega (arith, w.0))

-- ---- heads

pub str_head_spelled : (size : ℕ) → size ≤ max_length → StrHead size (str_head size)
unfolding str_head
str_head_spelled size few =
    let P = λ (bytes : List ℕ). StrHead size bytes in
    cond_both (nat_lt size 0x20) _ _ P (λ t. inl (ltb-true _ _ t, refl)) (λ _.
    cond_both (nat_lt size (2 ^ 8)) _ _ P (λ t. inr (inl (wide_spelled 0xd9 1 size (omega (arith, ltb-true _ _ t))))) (λ _.
    cond_both (nat_lt size (2 ^ 16)) _ _ P (λ t. inr (inr (inl (wide_spelled 0xda 2 size (omega (arith, ltb-true _ _ t)))))) (λ _.
    inr (inr (inr (wide_spelled 0xdb 4 size (omega arith)))))))

pub bin_head_spelled : (size : ℕ) → size ≤ max_length → BinHead size (bin_head size)
unfolding bin_head
bin_head_spelled size few =
    let P = λ (bytes : List ℕ). BinHead size bytes in
    cond_both (nat_lt size (2 ^ 8)) _ _ P (λ t. inl (wide_spelled 0xc4 1 size (omega (arith, ltb-true _ _ t)))) (λ _.
    cond_both (nat_lt size (2 ^ 16)) _ _ P (λ t. inr (inl (wide_spelled 0xc5 2 size (omega (arith, ltb-true _ _ t))))) (λ _.
    inr (inr (wide_spelled 0xc6 4 size (omega arith)))))

pub array_head_spelled : (count : ℕ) → count ≤ max_length → ArrayHead count (array_head count)
unfolding array_head
array_head_spelled count few =
    let P = λ (bytes : List ℕ). ArrayHead count bytes in
    cond_both (nat_lt count 0x10) _ _ P (λ t. inl (ltb-true _ _ t, refl)) (λ _.
    cond_both (nat_lt count (2 ^ 16)) _ _ P (λ t. inr (inl (wide_spelled 0xdc 2 count (omega (arith, ltb-true _ _ t))))) (λ _.
    inr (inr (wide_spelled 0xdd 4 count (omega arith)))))

pub map_head_spelled : (count : ℕ) → count ≤ max_length → MapHead count (map_head count)
unfolding map_head
map_head_spelled count few =
    let P = λ (bytes : List ℕ). MapHead count bytes in
    cond_both (nat_lt count 0x10) _ _ P (λ t. inl (ltb-true _ _ t, refl)) (λ _.
    cond_both (nat_lt count (2 ^ 16)) _ _ P (λ t. inr (inl (wide_spelled 0xde 2 count (omega (arith, ltb-true _ _ t))))) (λ _.
    inr (inr (wide_spelled 0xdf 4 count (omega arith)))))

str_within : (size most : ℕ) → 1 ≤ most → (0x20 ≤ size → 2 ≤ most) → (2 ^ 8 ≤ size → 3 ≤ most) → (2 ^ 16 ≤ size → 5 ≤ most) → length (str_head size) ≤ most
unfolding str_head
str_within size most one two three five =
    let P = λ (bytes : List ℕ). length bytes ≤ most in
    cond_both (nat_lt size 0x20) _ _ P (λ _. one) (λ f.
    let g = two (ltb-false _ _ f) in
    cond_both (nat_lt size (2 ^ 8)) _ _ P (λ _. let l = length-bytes_high_first 1 size in omega arith) (λ f.
    let g = three (ltb-false _ _ f) in
    cond_both (nat_lt size (2 ^ 16)) _ _ P (λ _. let l = length-bytes_high_first 2 size in omega arith) (λ f.
    let g = five (ltb-false _ _ f) in
    let l = length-bytes_high_first 4 size in omega arith)))

pub str_least : (size : ℕ) (head : List ℕ) → AreBytes head → StrHead size head → length (str_head size) ≤ length head
str_least size head each (inl (lt, e)) =
    let l : length head ≡ 1 = ap length e in
    str_within size (length head) (omega arith) (λ h. omega arith) (λ h. omega arith) (λ h. omega arith)
str_least size head each (inr (inl s)) =
    let l : length head ≡ 2 = wide_length 0xd9 1 size head s in
    let below : size < 2 ^ 8 = wide_below 0xd9 1 size head each s in
    str_within size (length head) (omega arith) (λ _. omega arith) (λ h. omega arith) (λ h. omega arith)
str_least size head each (inr (inr (inl s))) =
    let l : length head ≡ 3 = wide_length 0xda 2 size head s in
    let below : size < 2 ^ 16 = wide_below 0xda 2 size head each s in
    str_within size (length head) (omega arith) (λ _. omega arith) (λ _. omega arith) (λ h. omega arith)
str_least size head each (inr (inr (inr s))) =
    let l : length head ≡ 5 = wide_length 0xdb 4 size head s in
    str_within size (length head) (omega arith) (λ _. omega arith) (λ _. omega arith) (λ _. omega arith)

bin_within : (size most : ℕ) → 2 ≤ most → (2 ^ 8 ≤ size → 3 ≤ most) → (2 ^ 16 ≤ size → 5 ≤ most) → length (bin_head size) ≤ most
unfolding bin_head
bin_within size most two three five =
    let P = λ (bytes : List ℕ). length bytes ≤ most in
    cond_both (nat_lt size (2 ^ 8)) _ _ P (λ _. let l = length-bytes_high_first 1 size in omega arith) (λ f.
    let g = three (ltb-false _ _ f) in
    cond_both (nat_lt size (2 ^ 16)) _ _ P (λ _. let l = length-bytes_high_first 2 size in omega arith) (λ f.
    let g = five (ltb-false _ _ f) in
    let l = length-bytes_high_first 4 size in omega arith))

pub bin_least : (size : ℕ) (head : List ℕ) → AreBytes head → BinHead size head → length (bin_head size) ≤ length head
bin_least size head each (inl s) =
    let l : length head ≡ 2 = wide_length 0xc4 1 size head s in
    let below : size < 2 ^ 8 = wide_below 0xc4 1 size head each s in
    bin_within size (length head) (omega arith) (λ h. omega arith) (λ h. omega arith)
bin_least size head each (inr (inl s)) =
    let l : length head ≡ 3 = wide_length 0xc5 2 size head s in
    let below : size < 2 ^ 16 = wide_below 0xc5 2 size head each s in
    bin_within size (length head) (omega arith) (λ _. omega arith) (λ h. omega arith)
bin_least size head each (inr (inr s)) =
    let l : length head ≡ 5 = wide_length 0xc6 4 size head s in
    bin_within size (length head) (omega arith) (λ _. omega arith) (λ _. omega arith)

array_within : (count most : ℕ) → 1 ≤ most → (0x10 ≤ count → 3 ≤ most) → (2 ^ 16 ≤ count → 5 ≤ most) → length (array_head count) ≤ most
unfolding array_head
array_within count most one three five =
    let P = λ (bytes : List ℕ). length bytes ≤ most in
    cond_both (nat_lt count 0x10) _ _ P (λ _. one) (λ f.
    let g = three (ltb-false _ _ f) in
    cond_both (nat_lt count (2 ^ 16)) _ _ P (λ _. let l = length-bytes_high_first 2 count in omega arith) (λ f.
    let g = five (ltb-false _ _ f) in
    let l = length-bytes_high_first 4 count in omega arith))

pub array_least : (count : ℕ) (head : List ℕ) → AreBytes head → ArrayHead count head → length (array_head count) ≤ length head
array_least count head each (inl (lt, e)) =
    let l : length head ≡ 1 = ap length e in
    array_within count (length head) (omega arith) (λ h. omega arith) (λ h. omega arith)
array_least count head each (inr (inl s)) =
    let l : length head ≡ 3 = wide_length 0xdc 2 count head s in
    let below : count < 2 ^ 16 = wide_below 0xdc 2 count head each s in
    array_within count (length head) (omega arith) (λ _. omega arith) (λ h. omega arith)
array_least count head each (inr (inr s)) =
    let l : length head ≡ 5 = wide_length 0xdd 4 count head s in
    array_within count (length head) (omega arith) (λ _. omega arith) (λ _. omega arith)

map_within : (count most : ℕ) → 1 ≤ most → (0x10 ≤ count → 3 ≤ most) → (2 ^ 16 ≤ count → 5 ≤ most) → length (map_head count) ≤ most
unfolding map_head
map_within count most one three five =
    let P = λ (bytes : List ℕ). length bytes ≤ most in
    cond_both (nat_lt count 0x10) _ _ P (λ _. one) (λ f.
    let g = three (ltb-false _ _ f) in
    cond_both (nat_lt count (2 ^ 16)) _ _ P (λ _. let l = length-bytes_high_first 2 count in omega arith) (λ f.
    let g = five (ltb-false _ _ f) in
    let l = length-bytes_high_first 4 count in omega arith))

pub map_least : (count : ℕ) (head : List ℕ) → AreBytes head → MapHead count head → length (map_head count) ≤ length head
map_least count head each (inl (lt, e)) =
    let l : length head ≡ 1 = ap length e in
    map_within count (length head) (omega arith) (λ h. omega arith) (λ h. omega arith)
map_least count head each (inr (inl s)) =
    let l : length head ≡ 3 = wide_length 0xde 2 count head s in
    let below : count < 2 ^ 16 = wide_below 0xde 2 count head each s in
    map_within count (length head) (omega arith) (λ _. omega arith) (λ h. omega arith)
map_least count head each (inr (inr s)) =
    let l : length head ≡ 5 = wide_length 0xdf 4 count head s in
    map_within count (length head) (omega arith) (λ _. omega arith) (λ _. omega arith)
