-- The shortest spelling of a number of 0 or more is one of its spellings, and it is read again.
use Rattle.std.proofs.Common.{◌≡◌, ℕ, ◌^◌, ◌<◌, ◌≤◌, nat_lt, List, [], ◌∷◌, ◌++◌, length, Some, refl, sym, ap, ◌∙◌, inl, inr, arith}
use Rattle.std.proofs.lemmas.Bool.{cond_both, ltb-true}
use Rattle.std.proofs.lemmas.List.{append-nil}
use Rattle.byteorder.specs.Endian.{big_number, big_bytes}
use Rattle.byteorder.specs.Numbers.{big_number-reads_back, length-bytes_high_first}
use Rattle.mx_msgpack.specs.Grammar.{SpellsNumber, SpellsUnsigned}
use Rattle.mx_msgpack.specs.Readers.{unsigned_at}
use Rattle.mx_msgpack.specs.Spelling.{shortest_unsigned}
use Rattle.mx_msgpack.proofs.UnsignedLaws.{unsigned_read}

-- the bytes of a number that fits them spell it
pub wide_spelled : (leading width number : ℕ) → number < 256 ^ width → SpellsNumber leading width number (leading ∷ big_bytes width number)
wide_spelled leading width number fits =
    let same : number ≡ big_number width (big_bytes width number) =
    sym (ap (big_number width) (sym (append-nil (big_bytes width number))) ∙ big_number-reads_back width number [] fits) in
    (big_bytes width number, length-bytes_high_first width number, same, refl)

-- it is one of the spellings
pub shortest_spelled : (number : ℕ) → number < 2 ^ 64 → SpellsUnsigned number (shortest_unsigned number)
unfolding shortest_unsigned
shortest_spelled number below =
    let P = λ (bytes : List ℕ). SpellsUnsigned number bytes in
    cond_both (nat_lt number 0x80) _ _ P (λ t. inl (ltb-true _ _ t, refl)) (λ _.
    cond_both (nat_lt number (2 ^ 8)) _ _ P (λ t. inr (inl (wide_spelled 0xcc 1 number (omega (arith, ltb-true _ _ t))))) (λ _.
    cond_both (nat_lt number (2 ^ 16)) _ _ P (λ t. inr (inr (inl (wide_spelled 0xcd 2 number (omega (arith, ltb-true _ _ t)))))) (λ _.
    cond_both (nat_lt number (2 ^ 32)) _ _ P (λ t. inr (inr (inr (inl (wide_spelled 0xce 4 number (omega (arith, ltb-true _ _ t))))))) (λ _.
    inr (inr (inr (inr (wide_spelled 0xcf 8 number (omega arith)))))))))

-- what is written is read again, whatever follows
pub unsigned_again : (number : ℕ) (rest : List ℕ) → number < 2 ^ 64 → unsigned_at (shortest_unsigned number ++ rest) ≡ Some (number, rest)
unsigned_again number rest below = unsigned_read number (shortest_unsigned number) rest (shortest_spelled number below)

wide_within : (leading width number : ℕ) → width ≤ 8 → (1 ≤ length (leading ∷ big_bytes width number)) × (length (leading ∷ big_bytes width number) ≤ 9)
wide_within leading width number few = let l = length-bytes_high_first width number in (omega arith, omega arith)

-- a spelling takes one byte at least and nine at most
pub shortest_length : (number : ℕ) → (1 ≤ length (shortest_unsigned number)) × (length (shortest_unsigned number) ≤ 9)
unfolding shortest_unsigned
shortest_length number =
    let P = λ (bytes : List ℕ). (1 ≤ length bytes) × (length bytes ≤ 9) in
    cond_both (nat_lt number 0x80) _ _ P (λ _. (omega arith, omega arith)) (λ _.
    cond_both (nat_lt number (2 ^ 8)) _ _ P (λ _. wide_within 0xcc 1 number (omega arith)) (λ _.
    cond_both (nat_lt number (2 ^ 16)) _ _ P (λ _. wide_within 0xcd 2 number (omega arith)) (λ _.
    cond_both (nat_lt number (2 ^ 32)) _ _ P (λ _. wide_within 0xce 4 number (omega arith)) (λ _.
    wide_within 0xcf 8 number (omega arith)))))
