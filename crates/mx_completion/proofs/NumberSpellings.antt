-- A spelling of a number of 0 or more is its one byte, or a leading byte and the digits that stand behind that.
use Rattle.std.proofs.Common.{◌≡◌, ◌⊎◌, inl, inr, ℕ, suc, ◌*◌, ◌-◌, ◌^◌, ◌<◌, ◌≤◌, List, [], ◌∷◌, length, Option, Some, refl, ap, ◌∙◌, subst, arith}
use Rattle.std.specs.Prelude.{ℤ, pos, ◌-ℤ◌, nat_lt, if◌then◌else◌, ◌==◌}
use Rattle.std.proofs.lemmas.Bool.{cond_both, ltb-true, ltb-false, eqb-true, lt-ltb}
use Rattle.std.proofs.lemmas.Int.{ints}
use Rattle.byteorder.specs.Endian.{big_number}
use Rattle.byteorder.specs.Numbers.{big_from-lt}
use Rattle.mx_msgpack.specs.Grammar.{SpellsNumber, SpellsSigned, SpellsUnsigned, SpellsInt}
use Rattle.mx_msgpack.specs.Spelling.{AreBytes}
use Rattle.mx_msgpack.proofs.NumberLaws.{digits-bytes}
use Rattle.mx_completion.specs.declared.number.Digits.{Digits}
use Rattle.mx_completion.specs.NumberForms.{digits_behind}

abbrev form_of : (width most : ℕ) → Digits
form_of width most = record { width = width; most = most }

-- the digits of a number behind a leading byte
pub record IsWide (number : ℕ) (bytes : List ℕ) : Type 0 where
  pub leading : ℕ
  pub form : Digits
  pub digits : List ℕ
  pub behind : digits_behind leading ≡ Some form
  pub filled : length digits ≡ form.width
  pub is : number ≡ big_number form.width digits
  pub most : number ≤ form.most
  pub parts : bytes ≡ leading ∷ digits

module _ (leading width most number : ℕ) (bytes : List ℕ) (each : AreBytes bytes) (behind : digits_behind leading ≡ Some (form_of width most)) where
  below : (digits : List ℕ) → bytes ≡ leading ∷ digits → big_number width digits < 256 ^ width
  below digits parts = big_from-lt 0 width digits (λ k. let byte = digits-bytes leading digits bytes parts each k in omega arith)

  unsigned_wide : 256 ^ width ≡ suc most → SpellsNumber leading width number bytes → IsWide number bytes
  unsigned_wide all (digits, filled, is, parts) =
      let low = below digits parts in
      record { leading = leading; form = form_of width most; digits = digits; behind = behind; filled = filled; is = is; most = omega arith; parts = parts }

  -- with a sign the highest bit isn't set
  low_half : (unsigned : ℕ) → unsigned < 2 * suc most → pos number ≡ (if nat_lt unsigned (suc most) then pos unsigned else pos unsigned -ℤ pos (2 * suc most))
      → (number ≡ unsigned) × (number ≤ most)
  low_half unsigned low e =
      let P = λ (z : ℤ). pos number ≡ z → (number ≡ unsigned) × (number ≤ most) in
      cond_both (nat_lt unsigned (suc most)) _ _ P
      (λ t h. (omega (arith, ints), omega (arith, ints, ltb-true _ _ t)))
      (λ f h. absurd (omega (arith, ints, ltb-false _ _ f))) e

  signed_wide : 2 ^ (8 * width - 1) ≡ suc most → 2 ^ (8 * width) ≡ 2 * suc most → 256 ^ width ≡ 2 * suc most → SpellsSigned leading width (pos number) bytes
      → IsWide number bytes
  signed_wide half whole all (unsigned, (digits, filled, is, parts), e) =
      let low = below digits parts in
      let fits : unsigned < 2 * suc most = omega arith in
      let same = low_half unsigned fits (e ∙ (λ i. if nat_lt unsigned (half i) then pos unsigned else pos unsigned -ℤ pos (whole i))) in
      record { leading = leading; form = form_of width most; digits = digits; behind = behind; filled = filled; is = same.0 ∙ is; most = same.1; parts = parts }

pub wide_or_small : (number : ℕ) (bytes : List ℕ) → AreBytes bytes → SpellsInt (pos number) bytes → (bytes ≡ number ∷ []) ⊎ IsWide number bytes
wide_or_small number bytes each (inl (unsigned, same, s)) =
    let is : unsigned ≡ number = omega (arith, ints) in
    by_spelling (subst (λ (n : ℕ). SpellsUnsigned n bytes) is s)
  where
    by_spelling : SpellsUnsigned number bytes → (bytes ≡ number ∷ []) ⊎ IsWide number bytes
    by_spelling (inl (low, e)) = inl e
    by_spelling (inr (inl s)) = inr (unsigned_wide 0xcc 1 (2 ^ 8 - 1) number bytes each refl refl s)
    by_spelling (inr (inr (inl s))) = inr (unsigned_wide 0xcd 2 (2 ^ 16 - 1) number bytes each refl refl s)
    by_spelling (inr (inr (inr (inl s)))) = inr (unsigned_wide 0xce 4 (2 ^ 32 - 1) number bytes each refl refl s)
    by_spelling (inr (inr (inr (inr s)))) = inr (unsigned_wide 0xcf 8 (2 ^ 64 - 1) number bytes each refl refl s)
wide_or_small number bytes each (inr (inl (byte, least, most, e, same))) = absurd (omega (arith, ints))
wide_or_small number bytes each (inr (inr (inl s))) = inr (signed_wide 0xd0 1 (2 ^ 7 - 1) number bytes each refl refl refl refl s)
wide_or_small number bytes each (inr (inr (inr (inl s)))) = inr (signed_wide 0xd1 2 (2 ^ 15 - 1) number bytes each refl refl refl refl s)
wide_or_small number bytes each (inr (inr (inr (inr (inl s))))) = inr (signed_wide 0xd2 4 (2 ^ 31 - 1) number bytes each refl refl refl refl s)
wide_or_small number bytes each (inr (inr (inr (inr (inr s))))) = inr (signed_wide 0xd3 8 (2 ^ 63 - 1) number bytes each refl refl refl refl s)

-- ---- back again

signed_low : (leading width most number : ℕ) (digits : List ℕ) → 2 ^ (8 * width - 1) ≡ suc most → length digits ≡ width → number ≡ big_number width digits → number ≤ most
    → SpellsSigned leading width (pos number) (leading ∷ digits)
signed_low leading width most number digits half filled is low =
    (number, (digits, filled, is, refl), rw (half, lt-ltb number (suc most) (omega arith)) refl)

abbrev Spelled : (leading number : ℕ) (form : Digits) (digits : List ℕ) → Type 0
Spelled leading number form digits = length digits ≡ form.width → number ≡ big_number form.width digits → number ≤ form.most → SpellsInt (pos number) (leading ∷ digits)

pub wide_spelled : (leading number : ℕ) (form : Digits) (digits : List ℕ) → digits_behind leading ≡ Some form → length digits ≡ form.width
    → number ≡ big_number form.width digits → number ≤ form.most → SpellsInt (pos number) (leading ∷ digits)
wide_spelled leading number form digits behind =
    let P = λ (o : Option Digits). o ≡ Some form → Spelled leading number form digits in
    cond_both (leading == 0xcc) _ _ P (λ t e. unsigned 0xcc 1 (2 ^ 8 - 1) (eqb-true _ _ t) e (λ s. inr (inl s))) (λ _.
    cond_both (leading == 0xcd) _ _ P (λ t e. unsigned 0xcd 2 (2 ^ 16 - 1) (eqb-true _ _ t) e (λ s. inr (inr (inl s)))) (λ _.
    cond_both (leading == 0xce) _ _ P (λ t e. unsigned 0xce 4 (2 ^ 32 - 1) (eqb-true _ _ t) e (λ s. inr (inr (inr (inl s))))) (λ _.
    cond_both (leading == 0xcf) _ _ P (λ t e. unsigned 0xcf 8 (2 ^ 64 - 1) (eqb-true _ _ t) e (λ s. inr (inr (inr (inr s))))) (λ _.
    cond_both (leading == 0xd0) _ _ P (λ t e. signed 0xd0 1 (2 ^ 7 - 1) (eqb-true _ _ t) e refl (λ s. inr (inr (inl s)))) (λ _.
    cond_both (leading == 0xd1) _ _ P (λ t e. signed 0xd1 2 (2 ^ 15 - 1) (eqb-true _ _ t) e refl (λ s. inr (inr (inr (inl s))))) (λ _.
    cond_both (leading == 0xd2) _ _ P (λ t e. signed 0xd2 4 (2 ^ 31 - 1) (eqb-true _ _ t) e refl (λ s. inr (inr (inr (inr (inl s)))))) (λ _.
    cond_both (leading == 0xd3) _ _ P (λ t e. signed 0xd3 8 (2 ^ 63 - 1) (eqb-true _ _ t) e refl (λ s. inr (inr (inr (inr (inr s)))))) (λ _ e. absurd cc)))))))) behind
  where
    unsigned : (byte width most : ℕ) → leading ≡ byte → Some (form_of width most) ≡ Some form → (SpellsNumber byte width number (byte ∷ digits) → SpellsUnsigned number (byte ∷ digits)) → Spelled leading number form digits
    unsigned byte width most at e of filled is low =
        let w : form.width ≡ width = cc in
        rw at (inl (number, refl, of (digits, filled ∙ w, is ∙ ap (λ (n : ℕ). big_number n digits) w, refl)))

    signed : (byte width most : ℕ) → leading ≡ byte → Some (form_of width most) ≡ Some form → 2 ^ (8 * width - 1) ≡ suc most
        → (SpellsSigned byte width (pos number) (byte ∷ digits) → SpellsInt (pos number) (byte ∷ digits)) → Spelled leading number form digits
    signed byte width most at e half of filled is low =
        let w : form.width ≡ width = cc in
        let m : form.most ≡ most = cc in
        rw at (of (signed_low byte width most number digits half (filled ∙ w) (is ∙ ap (λ (n : ℕ). big_number n digits) w) (omega arith)))
