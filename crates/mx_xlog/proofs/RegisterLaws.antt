-- The register of a checksum: it takes the bits of two numbers apart from each other, and bytes apart too.
use Rattle.std.proofs.Common.{◌≡◌, ℕ, zero, suc, ◌*◌, ◌/◌, ◌%◌, ◌^◌, ◌⊎◌, refl, sym, ap, ◌∙◌, inl, inr, arith, bit_xor}
use Rattle.std.proofs.lemmas.Bool.{cases_eq}
use Rattle.std.proofs.lemmas.Nat.{xor_shr, xor_mod, xor_comm}
use Rattle.std.proofs.Math.Nat.{pow-suc, mul_assoc}
use Rattle.std.specs.Int.Bits.{xor_assoc, xor_self, xor_zero_r, xor_shifted}
use Rattle.mx_xlog.specs.Registers.{after_zeros}
use Rattle.mx_xlog.specs.Checksums.{polynomial, after_bit, after_bits}

-- the bit that is shifted out is 0 or 1
after_bit_even : (a : ℕ) → a % 2 ≡ 0 → after_bit a ≡ a / 2
after_bit_even a even = rw even refl

after_bit_odd : (a : ℕ) → a % 2 ≡ 1 → after_bit a ≡ bit_xor (a / 2) polynomial
after_bit_odd a odd = rw odd refl

even_or_odd : (a : ℕ) → (a % 2 ≡ 0) ⊎ (a % 2 ≡ 1)
even_or_odd a = elim (cases_eq (a % 2) 0) [ inl even ↦ inl even | inr other ↦ inr (omega arith) ]

bit_of_xor : (a b : ℕ) → bit_xor a b % 2 ≡ bit_xor (a % 2) (b % 2)
bit_of_xor a b = xor_mod a b 1

half_of_xor : (a b : ℕ) → bit_xor a b / 2 ≡ bit_xor (a / 2) (b / 2)
half_of_xor a b = xor_shr a b 1

pub swap_last : (a b c : ℕ) → bit_xor (bit_xor a b) c ≡ bit_xor (bit_xor a c) b
swap_last a b c = xor_assoc a b c ∙ ap (bit_xor a) (xor_comm b c) ∙ sym (xor_assoc a c b)

drop_twice : (a b c : ℕ) → bit_xor (bit_xor a c) (bit_xor b c) ≡ bit_xor a b
drop_twice a b c =
    swap_last a c (bit_xor b c) ∙ ap (λ x. bit_xor x c) (sym (xor_assoc a b c)) ∙ xor_assoc (bit_xor a b) c c
    ∙ ap (bit_xor (bit_xor a b)) (xor_self c) ∙ xor_zero_r (bit_xor a b)

-- a step takes the bits of two numbers apart from each other
after_bit_xor : (a b : ℕ) → after_bit (bit_xor a b) ≡ bit_xor (after_bit a) (after_bit b)
after_bit_xor a b = elim (even_or_odd a) [
  | inl a_even ↦ elim (even_or_odd b) [
    | inl b_even ↦
        after_bit_even (bit_xor a b) (bit_of_xor a b ∙ rw (a_even, b_even) refl) ∙ half_of_xor a b
        ∙ rw (after_bit_even a a_even, after_bit_even b b_even) refl
    | inr b_odd ↦
        after_bit_odd (bit_xor a b) (bit_of_xor a b ∙ rw (a_even, b_odd) refl) ∙ ap (λ x. bit_xor x polynomial) (half_of_xor a b)
        ∙ xor_assoc (a / 2) (b / 2) polynomial ∙ rw (after_bit_even a a_even, after_bit_odd b b_odd) refl
  ]
  | inr a_odd ↦ elim (even_or_odd b) [
    | inl b_even ↦
        after_bit_odd (bit_xor a b) (bit_of_xor a b ∙ rw (a_odd, b_even) refl) ∙ ap (λ x. bit_xor x polynomial) (half_of_xor a b)
        ∙ swap_last (a / 2) (b / 2) polynomial ∙ rw (after_bit_odd a a_odd, after_bit_even b b_even) refl
    | inr b_odd ↦
        after_bit_even (bit_xor a b) (bit_of_xor a b ∙ rw (a_odd, b_odd) refl) ∙ half_of_xor a b
        ∙ sym (drop_twice (a / 2) (b / 2) polynomial) ∙ rw (after_bit_odd a a_odd, after_bit_odd b b_odd) refl
  ]
]

pub after_bits_xor : (count a b : ℕ) → after_bits count (bit_xor a b) ≡ bit_xor (after_bits count a) (after_bits count b)
after_bits_xor zero a b = refl
after_bits_xor (suc count) a b = ap (after_bits count) (after_bit_xor a b) ∙ after_bits_xor count (after_bit a) (after_bit b)

-- zeros that are shifted out change nothing
pub after_bits_shifted : (count a : ℕ) → after_bits count (a * 2 ^ count) ≡ a
after_bits_shifted zero a = omega arith
after_bits_shifted (suc count) a =
    let double : a * 2 ^ suc count ≡ a * 2 ^ count * 2 = ap (λ x. a * x) (pow-suc 2 count) ∙ sym (mul_assoc a (2 ^ count) 2) in
    let even : a * 2 ^ suc count % 2 ≡ 0 = omega arith in
    let half : a * 2 ^ suc count / 2 ≡ a * 2 ^ count = omega arith in
    ap (after_bits count) (after_bit_even (a * 2 ^ suc count) even ∙ half) ∙ after_bits_shifted count a

-- eight steps are the low byte's eight steps over the other bytes
pub after_bits_low : (a : ℕ) → after_bits 8 a ≡ bit_xor (after_bits 8 (a % 256)) (a / 256)
after_bits_low a =
    let parts : bit_xor (a / 256 * 2 ^ 8) (a % 256) ≡ a = xor_shifted (a / 256) 8 (a % 256) (omega arith) ∙ omega arith in
    ap (after_bits 8) (sym parts) ∙ after_bits_xor 8 (a / 256 * 2 ^ 8) (a % 256)
    ∙ ap (λ x. bit_xor x (after_bits 8 (a % 256))) (after_bits_shifted 8 (a / 256)) ∙ xor_comm (a / 256) (after_bits 8 (a % 256))

-- ---- bytes 0

pub zeros_more : (count a : ℕ) → after_zeros (suc count) a ≡ after_bits 8 (after_zeros count a)
unfolding after_zeros
zeros_more zero a = refl
zeros_more (suc count) a = zeros_more count (after_bits 8 a)

zeros_xor : (count a b : ℕ) → after_zeros count (bit_xor a b) ≡ bit_xor (after_zeros count a) (after_zeros count b)
unfolding after_zeros
zeros_xor zero a b = refl
zeros_xor (suc count) a b = ap (after_zeros count) (after_bits_xor 8 a b) ∙ zeros_xor count (after_bits 8 a) (after_bits 8 b)

-- the low byte goes its way over the other bytes, which have one byte less to go
pub zeros_low : (count a : ℕ) → after_zeros (suc count) a ≡ bit_xor (after_zeros (suc count) (a % 256)) (after_zeros count (a / 256))
unfolding after_zeros
zeros_low count a = ap (after_zeros count) (after_bits_low a) ∙ zeros_xor count (after_bits 8 (a % 256)) (a / 256)
