-- A number that is spelled in bytes fits 64 bits, with or without a sign.
use Rattle.std.proofs.Common.{◌≡◌, ℕ, zero, suc, ◌^◌, ◌<◌, ◌≤◌, ◌-◌, ◌*◌, List, [], ◌∷◌, take, refl, sym, subst, ◌⊎◌, inl, inr, arith}
use Rattle.std.specs.Prelude.{ℤ, pos, negsuc, ◌-ℤ◌, Bool, true, false, nat_lt, if◌then◌else◌}
use Rattle.std.proofs.lemmas.Bool.{ltb-false}
use Rattle.std.proofs.lemmas.Int.{ints}
use Rattle.byteorder.specs.Endian.{big_number, twos_complement}
use Rattle.mx_msgpack.specs.Grammar as grammar
use Rattle.mx_msgpack.specs.Grammar.{Value, SpellsNumber, SpellsUnsigned, SpellsSigned, SpellsInt, Spells}
use Rattle.mx_msgpack.specs.Spelling.{AreBytes}

take-bytes : (n : ℕ) (xs : List ℕ) → AreBytes xs → AreBytes (take n xs)
take-bytes zero xs each i = omega arith
take-bytes (suc n) [] each i = omega arith
take-bytes (suc n) (x ∷ xs) each zero = each 0
take-bytes (suc n) (x ∷ xs) each (suc i) = take-bytes n xs (λ k. each (suc k)) i

-- the bytes after a leading byte
pub digits-bytes : (leading : ℕ) (digits bytes : List ℕ) → bytes ≡ leading ∷ digits → AreBytes bytes → AreBytes digits
digits-bytes leading digits bytes spelled each i = let tail = subst AreBytes spelled each in tail (suc i)

eight_fit : (xs : List ℕ) → AreBytes xs → big_number 8 xs < 2 ^ 64
eight_fit xs each = omega (arith, each 0, each 1, each 2, each 3, each 4, each 5, each 6, each 7)

four_fit : (xs : List ℕ) → AreBytes xs → big_number 4 xs < 2 ^ 64
four_fit xs each = omega (arith, each 0, each 1, each 2, each 3)

two_fit : (xs : List ℕ) → AreBytes xs → big_number 2 xs < 2 ^ 64
two_fit xs each = omega (arith, each 0, each 1)

one_fits : (xs : List ℕ) → AreBytes xs → big_number 1 xs < 2 ^ 64
one_fits xs each = omega (arith, each 0)

wide_fits : (leading width number : ℕ) (bytes : List ℕ) → AreBytes bytes
    → ((xs : List ℕ) → AreBytes xs → big_number width xs < 2 ^ 64)
    → SpellsNumber leading width number bytes → number < 2 ^ 64
wide_fits leading width number bytes each fits spelled =
    let below = fits spelled.0 (digits-bytes leading spelled.0 bytes spelled.3 each) in
    let same = spelled.2 in
    omega arith

unsigned_fits : (number : ℕ) (bytes : List ℕ) → AreBytes bytes → SpellsUnsigned number bytes → number < 2 ^ 64
unsigned_fits number bytes each (inl spelled) = let low = spelled.0 in omega arith
unsigned_fits number bytes each (inr (inl spelled)) = wide_fits 0xcc 1 number bytes each one_fits spelled
unsigned_fits number bytes each (inr (inr (inl spelled))) = wide_fits 0xcd 2 number bytes each two_fit spelled
unsigned_fits number bytes each (inr (inr (inr (inl spelled)))) = wide_fits 0xce 4 number bytes each four_fit spelled
unsigned_fits number bytes each (inr (inr (inr (inr spelled)))) = wide_fits 0xcf 8 number bytes each eight_fit spelled

-- ---- with a sign

-- as two's complement a number of 0 or more is at most the number without a sign
pub signed_most : (width unsigned n : ℕ) → twos_complement width unsigned ≡ pos n → n ≤ unsigned
signed_most width unsigned n e = by_test (nat_lt unsigned (2 ^ (8 * width - 1))) e
  where
    by_test : (b : Bool) → (if b then pos unsigned else pos unsigned -ℤ pos (2 ^ (8 * width))) ≡ pos n → n ≤ unsigned
    by_test true e = omega (arith, ints)
    by_test false e = omega (arith, ints)

-- and one below 0 is at least as great as the least of its width
signed_least : (width half unsigned n : ℕ) → 2 ^ (8 * width - 1) ≡ half → 2 ^ (8 * width) ≡ 2 * half → twos_complement width unsigned ≡ negsuc n → n < half
signed_least width half unsigned n at twice e = by_test (nat_lt unsigned (2 ^ (8 * width - 1))) refl e
  where
    by_test : (b : Bool) → nat_lt unsigned (2 ^ (8 * width - 1)) ≡ b → (if b then pos unsigned else pos unsigned -ℤ pos (2 ^ (8 * width))) ≡ negsuc n → n < half
    by_test true t e = absurd (omega (arith, ints))
    by_test false t e = let high = ltb-false _ _ t in omega (arith, ints)

-- a number is from -2^63 up to 2^64 - 1
abbrev pub FitsBytes : ℤ → Type 0
FitsBytes number = ((n : ℕ) × (number ≡ pos n) × (n < 2 ^ 64)) ⊎ ((n : ℕ) × (number ≡ negsuc n) × (n < 2 ^ 63))

signed_fits : (leading width half : ℕ) (number : ℤ) (bytes : List ℕ) → AreBytes bytes → ((xs : List ℕ) → AreBytes xs → big_number width xs < 2 ^ 64)
    → 2 ^ (8 * width - 1) ≡ half → 2 ^ (8 * width) ≡ 2 * half → half ≤ 2 ^ 63 → SpellsSigned leading width number bytes → FitsBytes number
signed_fits leading width half (pos n) bytes each fits at twice room (unsigned, spelled, same) =
    let below = wide_fits leading width unsigned bytes each fits spelled in
    let most = signed_most width unsigned n (sym same) in
    inl (n, refl, omega arith)
signed_fits leading width half (negsuc n) bytes each fits at twice room (unsigned, spelled, same) =
    let least = signed_least width half unsigned n at twice (sym same) in
    inr (n, refl, omega arith)

byte_fits : (byte : ℕ) (number : ℤ) → 0xe0 ≤ byte → byte < 0x100 → number ≡ pos byte -ℤ pos 0x100 → FitsBytes number
byte_fits byte (pos n) low high e = absurd (omega (arith, ints))
byte_fits byte (negsuc n) low high e = inr (n, refl, omega (arith, ints))

pub int_fits : (number : ℤ) (bytes : List ℕ) → AreBytes bytes → SpellsInt number bytes → FitsBytes number
int_fits number bytes each (inl (unsigned, same, spelled)) = inl (unsigned, same, unsigned_fits unsigned bytes each spelled)
int_fits number bytes each (inr (inl (byte, low, high, same, e))) = byte_fits byte number low high same
int_fits number bytes each (inr (inr (inl spelled))) = signed_fits 0xd0 1 (2 ^ 7) number bytes each one_fits refl refl (omega arith) spelled
int_fits number bytes each (inr (inr (inr (inl spelled)))) = signed_fits 0xd1 2 (2 ^ 15) number bytes each two_fit refl refl (omega arith) spelled
int_fits number bytes each (inr (inr (inr (inr (inl spelled))))) = signed_fits 0xd2 4 (2 ^ 31) number bytes each four_fit refl refl (omega arith) spelled
int_fits number bytes each (inr (inr (inr (inr (inr spelled))))) = signed_fits 0xd3 8 (2 ^ 63) number bytes each eight_fit refl refl (omega arith) spelled

-- a number at the start of bytes fits
pub number_fits : (bytes : List ℕ) (size : ℕ) (number : ℤ) (value : Value) → AreBytes bytes → Spells 64 value (take size bytes) → value ≡ grammar.Int number → FitsBytes number
number_fits bytes size number value each spelled same =
    int_fits number (take size bytes) (take-bytes size bytes each) (subst (λ (v : Value). Spells 64 v (take size bytes)) same spelled)
