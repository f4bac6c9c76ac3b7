-- Which numbers of 0 or more bytes can become with one more byte or more.
use Rattle.std.proofs.Common.{◌≡◌, inl, inr, ℕ, zero, suc, ◌+◌, ◌-◌, ◌^◌, ◌<◌, ◌≤◌, List, [], ◌∷◌, ◌++◌, length, replicate, get_or, Option, Some, None, refl, sym, ap, ◌∙◌, subst, arith}
use Rattle.std.specs.Prelude.{◌↔◌, pos, nat_lt, nat_le}
use Rattle.std.proofs.lemmas.Bool.{cond_both, ltb-true, ltb-false, leb-true, leb-false}
use Rattle.std.proofs.lemmas.Int.{ints}
use Rattle.std.proofs.lemmas.List.{length-append, length-replicate}
use Rattle.byteorder.specs.Endian.{big_number, big_bytes}
use Rattle.mx_msgpack.specs.Spelling.{AreBytes}
use Rattle.mx_msgpack.proofs.NumberLaws.{FitsBytes, int_fits}
use Rattle.mx_msgpack.proofs.Options.{same_some}
use Rattle.mx_msgpack.proofs.SpellingLaws.{wide_spelled as spelled_of}
use Rattle.mx_completion.specs.declared.number.Digits.{Digits}
use Rattle.mx_completion.specs.declared.number.NumberRange.{NumberRange}
use Rattle.mx_completion.specs.NumberForms.{digits_behind, filled, filled_range}
use Rattle.mx_completion.specs.Numbers.{CanBecome, IsRange}
use Rattle.mx_completion.proofs.DigitLaws.{filled_within, filled_between, big_bytes-bytes}
use Rattle.mx_completion.proofs.ByteLaws.{bytes-append}
use Rattle.mx_completion.proofs.NumberSpellings.{wide_or_small, wide_spelled}

-- one digit more, or more, make the number
pub record Fills (form : Digits) (digits : List ℕ) (number : ℕ) : Type 0 where
  pub missing : List ℕ
  pub each : AreBytes missing
  pub some : 1 ≤ length missing
  pub all : length digits + length missing ≡ form.width
  pub is : number ≡ big_number form.width (digits ++ missing)
  pub most : number ≤ form.most

-- a range is that of the numbers that have the property
abbrev pub Ranges : (ℕ → Type 0) → Option NumberRange → Type 0
Ranges Has None = (number : ℕ) → ¬ Has number
Ranges Has (Some range) = (range.least ≤ range.most) × ((number : ℕ) → Has number ↔ ((range.least ≤ number) × (number ≤ range.most)))

-- ---- the numbers of some digits

module _ (form : Digits) (digits : List ℕ) (few : form.width ≤ 8) where
  abbrev pub least : ℕ
  least = filled 0x00 form.width digits

  abbrev pub most : ℕ
  most = filled 0xff form.width digits

  abbrev pub Within : ℕ → Type 0
  Within number = (least ≤ number) × (number ≤ most) × (number ≤ form.most)

  pub within : (number : ℕ) → Fills form digits number → Within number
  within number fills =
      let w = filled_within form.width digits (length fills.missing) fills.all few fills.missing refl fills.each in
      let is = fills.is in
      let low = fills.most in
      (omega arith, omega arith, omega arith)

  pub filling : (number : ℕ) → length digits < form.width → Within number → Fills form digits number
  filling number short (from, to, low) =
      let f = filled_between form.width digits (form.width - length digits) (omega arith) few number from to in
      let size = f.2 in
      record { missing = f.0; each = f.1; some = omega arith; all = omega arith; is = f.3; most = low }

  -- the least number of the digits is one of them
  least_below : length digits < form.width → least ≤ most
  least_below short =
      let n = form.width - length digits in
      let zeros : List ℕ = replicate n 0 in
      let each : AreBytes zeros = λ i. get_or_zero n i in
      let w : (least ≤ big_number form.width (digits ++ zeros)) × (big_number form.width (digits ++ zeros) ≤ most) =
      filled_within form.width digits n (omega arith) few zeros (length-replicate n 0) each in
      omega arith
    where
      get_or_zero : (n i : ℕ) → get_or (replicate n 0) i 0 < 2 ^ 8
      get_or_zero zero i = omega arith
      get_or_zero (suc n) zero = omega arith
      get_or_zero (suc n) (suc i) = get_or_zero n i

  filled_ranges : Ranges (Fills form digits) (filled_range form digits)
  filled_ranges =
      cond_both (nat_lt (length digits) form.width) _ _ (Ranges (Fills form digits)) (λ t.
      cond_both (nat_le least form.most) _ _ (Ranges (Fills form digits))
      (λ u. (
        (let l = leb-true _ _ u in let below = least_below (ltb-true _ _ t) in omega arith),
        λ number. (
          (λ fills. let w = within number fills in (w.0, omega arith)),
          (λ w. filling number (ltb-true _ _ t) (w.0, omega arith, omega arith)),
        ),
      ))
      (λ f number fills. let w = within number fills in let l = leb-false _ _ f in omega arith))
      (λ f number fills. let l = ltb-false _ _ f in let some = fills.some in let all = fills.all in omega arith)

-- ---- the numbers that bytes can become

module _ (leading : ℕ) (digits : List ℕ) (each : AreBytes (leading ∷ digits)) where
  pub becoming : (number : ℕ) → CanBecome (leading ∷ digits) number → (form : Digits) × (digits_behind leading ≡ Some form) × Fills form digits number
  becoming number (missing, bytes, some, s) =
      elim (wide_or_small number (leading ∷ (digits ++ missing)) (bytes-append (leading ∷ digits) missing each bytes) s) [
        | inl small ↦ let l = ap length small in let both = length-append digits missing in absurd (omega arith)
        | inr wide ↦
            let first : wide.leading ≡ leading = let e = wide.parts in cc in
            let others : wide.digits ≡ digits ++ missing = let e = wide.parts in cc in
            let size = ap length others ∙ length-append digits missing in
            let whole = wide.filled in (
              wide.form,
              ap digits_behind (sym first) ∙ wide.behind,
              record {
                missing = missing;
                each = bytes;
                some = some;
                all = omega arith;
                is = wide.is ∙ ap (big_number wide.form.width) others;
                most = wide.most;
              },
            )
      ]

  pub none_behind : digits_behind leading ≡ None → IsRange (leading ∷ digits) None
  none_behind none number can = let (form, is, fills) = becoming number can in absurd cc

  pub filled_become : (form : Digits) → digits_behind leading ≡ Some form → (number : ℕ) → Fills form digits number → CanBecome (leading ∷ digits) number
  filled_become form behind number fills =
      let size = length-append digits fills.missing in
      let all = fills.all in
      (fills.missing, fills.each, fills.some, wide_spelled leading number form (digits ++ fills.missing) behind (omega arith) fills.is fills.most)

  fills_of : (form : Digits) → digits_behind leading ≡ Some form → (number : ℕ) → CanBecome (leading ∷ digits) number → Fills form digits number
  fills_of form behind number can =
      let (other, is, fills) = becoming number can in
      subst (λ (f : Digits). Fills f digits number) (same_some other form (sym is ∙ behind)) fills

  pub range_behind : (form : Digits) → digits_behind leading ≡ Some form → form.width ≤ 8 → IsRange (leading ∷ digits) (filled_range form digits)
  range_behind form behind few = by_range (filled_range form digits) (filled_ranges form digits few)
    where
      by_range : (range : Option NumberRange) → Ranges (Fills form digits) range → IsRange (leading ∷ digits) range
      by_range None none = λ number can. none number (fills_of form behind number can)
      by_range (Some range) (below, all) = (
        below,
        λ number. (
          (λ can. (all number).0 (fills_of form behind number can)),
          (λ within. filled_become form behind number ((all number).1 within)),
        ),
      )

-- ---- no bytes

pub range_of_none : IsRange [] (Some (record { least = 0; most = 2 ^ 64 - 1 }))
range_of_none = (omega arith, λ number. (fits number, becomes number))
  where
    below : (number : ℕ) → FitsBytes (pos number) → number ≤ 2 ^ 64 - 1
    below number (inl (n, same, low)) = omega (arith, ints)
    below number (inr (n, same, low)) = absurd (omega (arith, ints))

    fits : (number : ℕ) → CanBecome [] number → (0 ≤ number) × (number ≤ 2 ^ 64 - 1)
    fits number (missing, each, some, s) = (omega arith, below number (int_fits (pos number) missing each s))

    leading_byte : (bytes : List ℕ) → AreBytes bytes → AreBytes (0xcf ∷ bytes)
    leading_byte bytes each zero = omega arith
    leading_byte bytes each (suc i) = each i

    becomes : (number : ℕ) → (0 ≤ number) × (number ≤ 2 ^ 64 - 1) → CanBecome [] number
    becomes number (_, low) =
        let bytes = 0xcf ∷ big_bytes 8 number in
        let fits : number < 256 ^ 8 = omega arith in
        (bytes, leading_byte (big_bytes 8 number) (big_bytes-bytes 8 number), omega arith, inl (number, refl, inr (inr (inr (inr (spelled_of 0xcf 8 number fits))))))
