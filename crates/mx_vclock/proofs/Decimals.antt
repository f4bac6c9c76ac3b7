-- Numbers by their decimal digits, read from the left.
use Rattle.std.proofs.Common.{◌≡◌, ℕ, zero, suc, ◌+◌, ◌*◌, ◌-◌, ◌/◌, ◌%◌, ◌^◌, ◌<◌, ◌≤◌, List, [], ◌∷◌, ◌++◌, length, get_or, refl, sym, ap, subst, ◌∙◌, append_assoc, ◌⊎◌, inl, inr, arith}
use Rattle.std.specs.Fmt.{decimal}
use Rattle.std.specs.Str.Parse.{AllDigits}
use Rattle.std.proofs.lemmas.Fmt.{decimal_digit, decimal_step, decimal_injective, decimal_nonempty, first_decimal, decimal_is_IsNumeral}
use Rattle.std.proofs.lemmas.Str.Parse.{digit_from_value}
use Rattle.std.proofs.lemmas.Bool.{cases_lt}
use Rattle.std.proofs.lemmas.List.{append-nil, length-append}

abbrev pub IsDigit : ℕ → Type 0
IsDigit byte = (48 ≤ byte) × (byte ≤ 57)

-- the bytes of a number begin with this one
pub record Begins (number byte : ℕ) (more : List ℕ) : Type 0 where
  pub is : decimal number ≡ byte ∷ more
  pub digit : IsDigit byte
  pub low : 0 < number → 48 < byte

pub begins : (number : ℕ) → number < 2 ^ 64 → (byte : ℕ) × (more : List ℕ) × Begins number byte more
begins number small = by_bytes (decimal number) refl
  where
    by_bytes : (bytes : List ℕ) → decimal number ≡ bytes → (byte : ℕ) × (more : List ℕ) × Begins number byte more
    by_bytes [] e = absurd (omega (arith, decimal_nonempty number small, ap length e))
    by_bytes (byte ∷ more) e = (
      byte,
      more,
      record {
        is = e;
        digit = digit_from_value byte (subst (AllDigits 10) e (decimal_is_IsNumeral number small).0.1).0;
        low = λ some. subst (λ bytes. 48 < get_or bytes 0 0) e (first_decimal number some small);
      },
    )

-- one more digit after the digits of a number
pub digit_more : (number digit : ℕ) → 0 < number → digit < 10 → 10 * number + digit < 2 ^ 64 → decimal (10 * number + digit) ≡ decimal number ++ (48 + digit) ∷ []
digit_more number digit some ten small =
    let front : (10 * number + digit) / 10 ≡ number = omega arith in
    let end : (10 * number + digit) % 10 ≡ digit = omega arith in
    decimal_step (10 * number + digit) (omega arith) small ∙ (λ i. decimal (front i) ++ (48 + end i) ∷ [])

-- a number's digits are these of another one, and then more
abbrev pub GoesOn : ℕ → List ℕ → ℕ → Type 0
GoesOn number digits whole = decimal whole ≡ decimal number ++ digits

pub all_digits-append : (front back : List ℕ) → AllDigits 10 (front ++ back) → AllDigits 10 back
all_digits-append [] back d = d
all_digits-append (byte ∷ front) back d = all_digits-append front back d.1

-- the next of these digits is one
pub next_is_digit : (number byte : ℕ) (digits : List ℕ) (whole : ℕ) → whole < 2 ^ 64 → GoesOn number (byte ∷ digits) whole → IsDigit byte
next_is_digit number byte digits whole small e =
    digit_from_value byte (all_digits-append (decimal number) (byte ∷ digits) (subst (AllDigits 10) e (decimal_is_IsNumeral whole small).0.1)).0

-- a list as a prefix and its last
snoc : (first : ℕ) (others : List ℕ) → (front : List ℕ) × (last : ℕ) × (first ∷ others ≡ front ++ last ∷ [])
snoc first [] = ([], first, refl)
snoc first (next ∷ others) = let s = snoc next others in (first ∷ s.0, s.1, ap (λ l. first ∷ l) s.2)

pub same_last : (xs ys : List ℕ) (x y : ℕ) → xs ++ x ∷ [] ≡ ys ++ y ∷ [] → (xs ≡ ys) × (x ≡ y)
same_last [] [] x y e = (refl, cc)
same_last [] (y' ∷ ys) x y e = absurd (omega (arith, ap length e, length-append ys (y ∷ [])))
same_last (x' ∷ xs) [] x y e = absurd (omega (arith, ap length e, length-append xs (x ∷ [])))
same_last (x' ∷ xs) (y' ∷ ys) x y e =
    let t : xs ++ x ∷ [] ≡ ys ++ y ∷ [] = cc in
    let s = same_last xs ys x y t in
    let h : x' ≡ y' = cc in
    (cc (h, s.0), s.1)

-- a number of two digits or more without its last digit
pub without_last : (number : ℕ) (front : List ℕ) (last whole : ℕ) → whole < 2 ^ 64 → 0 < length (decimal number) → GoesOn number (front ++ last ∷ []) whole → (10 ≤ whole) × GoesOn number front (whole / 10)
without_last number front last whole small some e = by_order (cases_lt whole 10)
  where
    joined : decimal whole ≡ (decimal number ++ front) ++ last ∷ []
    joined = e ∙ sym (append_assoc (decimal number) front (last ∷ []))

    by_order : (whole < 10) ⊎ (10 ≤ whole) → (10 ≤ whole) × GoesOn number front (whole / 10)
    by_order (inl below) = absurd (omega (arith, ap length joined, ap length (decimal_digit whole below), length-append (decimal number ++ front) (last ∷ []), length-append (decimal number) front))
    by_order (inr above) = (above, (same_last (decimal (whole / 10)) (decimal number ++ front) (48 + whole % 10) last (sym (decimal_step whole above small) ∙ joined)).0)

-- what follows these digits of a number
pub ends_or_goes_on : (number byte whole : ℕ) (digits rest others : List ℕ) → number < 2 ^ 64 → whole < 2 ^ 64 → GoesOn number digits whole → digits ++ rest ≡ byte ∷ others
    → ((whole ≡ number) × (rest ≡ byte ∷ others)) ⊎ ((more : List ℕ) × IsDigit byte × GoesOn number (byte ∷ more) whole × (more ++ rest ≡ others))
ends_or_goes_on number byte whole [] rest others small fits e f = inl (decimal_injective whole number fits small (e ∙ append-nil (decimal number)), f)
ends_or_goes_on number byte whole (digit ∷ digits) rest others small fits e f =
    let same : digit ≡ byte = cc in
    let after : digits ++ rest ≡ others = cc in
    let g : GoesOn number (byte ∷ digits) whole = e ∙ ap (λ b. decimal number ++ b ∷ digits) same in
    inr (digits, next_is_digit number byte digits whole fits g, g, after)

-- no digit follows a 0
pub some_before : (number byte : ℕ) (more : List ℕ) (whole : ℕ) → whole < 2 ^ 64 → GoesOn number (byte ∷ more) whole → 0 < number
some_before (suc number) byte more whole fits e = omega arith
some_before zero byte more zero fits e =
    let z = decimal_digit 0 (omega arith) in
    let long : 1 ≡ suc (suc (length more)) = ap length (sym z ∙ e ∙ ap (λ l. l ++ byte ∷ more) z) in
    absurd (omega arith)
some_before zero byte more (suc whole) fits e =
    let z = decimal_digit 0 (omega arith) in
    let front : decimal (suc whole) ≡ 48 ∷ byte ∷ more = e ∙ ap (λ l. l ++ byte ∷ more) z in
    let first : 48 < 48 = subst (λ l. 48 < get_or l 0 0) front (first_decimal (suc whole) (omega arith) fits) in
    absurd (omega arith)

-- a number whose digits are these and one more
pub with_digit : (number byte : ℕ) (more : List ℕ) → 0 < number → IsDigit byte → 10 * number + (byte - 48) < 2 ^ 64 → decimal (10 * number + (byte - 48)) ++ more ≡ decimal number ++ byte ∷ more
with_digit number byte more some digit small =
    let back : 48 + (byte - 48) ≡ byte = omega (arith, digit.0) in
    ap (λ l. l ++ more) (digit_more number (byte - 48) some (omega (arith, digit.1)) small)
    ∙ append_assoc (decimal number) ((48 + (byte - 48)) ∷ []) more
    ∙ ap (λ b. decimal number ++ b ∷ more) back

-- no number is below the one that its first digits say
pub not_below : (number : ℕ) (digits : List ℕ) (whole : ℕ) → number < 2 ^ 64 → whole < 2 ^ 64 → GoesOn number digits whole → number ≤ whole
not_below number digits whole small fits e = by_length (length digits) digits whole (omega arith) fits e
  where
    by_length : (most : ℕ) (digits : List ℕ) (whole : ℕ) → length digits ≤ most → whole < 2 ^ 64 → GoesOn number digits whole → number ≤ whole
    by_length most [] whole le fits e = omega (arith, decimal_injective whole number fits small (e ∙ append-nil (decimal number)))
    by_length zero (digit ∷ digits) whole le fits e = absurd (omega arith)
    by_length (suc most) (digit ∷ digits) whole le fits e =
        let s = snoc digit digits in
        let w = without_last number s.0 s.1 whole fits (decimal_nonempty number small) (e ∙ ap (λ l. decimal number ++ l) s.2) in
        let n = length-append s.0 (s.1 ∷ []) in
        let l : length (digit ∷ digits) ≡ length (s.0 ++ s.1 ∷ []) = ap length s.2 in
        omega (arith, by_length most s.0 (whole / 10) (omega arith) (omega arith) w.1)

-- a number of at most two digits, by a prefix of them
pub two_digits : (number : ℕ) (digits : List ℕ) (whole : ℕ) → number < 2 ^ 64 → whole < 100 → GoesOn number digits whole → (whole ≡ number) ⊎ ((10 ≤ whole) × (whole / 10 ≡ number))
two_digits number [] whole small fits e = inl (decimal_injective whole number (omega arith) small (e ∙ append-nil (decimal number)))
two_digits number (digit ∷ digits) whole small fits e = by_front s.0 w.1
  where
    s : (front : List ℕ) × (last : ℕ) × (digit ∷ digits ≡ front ++ last ∷ [])
    s = snoc digit digits

    w : (10 ≤ whole) × GoesOn number s.0 (whole / 10)
    w = without_last number s.0 s.1 whole (omega arith) (decimal_nonempty number small) (e ∙ ap (λ l. decimal number ++ l) s.2)

    by_front : (front : List ℕ) → GoesOn number front (whole / 10) → (whole ≡ number) ⊎ ((10 ≤ whole) × (whole / 10 ≡ number))
    by_front [] f = inr (w.0, decimal_injective (whole / 10) number (omega arith) small (f ∙ append-nil (decimal number)))
    by_front (first ∷ others) f =
        let t = snoc first others in
        let v = without_last number t.0 t.1 (whole / 10) (omega arith) (decimal_nonempty number small) (f ∙ ap (λ l. decimal number ++ l) t.2) in
        absurd (omega (arith, v.0))
