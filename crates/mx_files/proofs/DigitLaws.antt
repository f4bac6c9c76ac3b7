-- Digits of a fixed number are a number's decimal digits after zeros.
use Rattle.std.proofs.Common.{◌≡◌, ℕ, zero, suc, ◌+◌, ◌-◌, ◌/◌, ◌%◌, ◌^◌, ◌<◌, ◌≤◌, List, [], ◌∷◌, ◌++◌, length, replicate, decimal, refl, sym, ap, ◌∙◌, append_assoc, arith, ◌⊎◌, inl, inr, String, Result, Ok, Err, IfOk, string_bytes}
use Rattle.std.proofs.lemmas.Bool.{cases_lt}
use Rattle.std.proofs.lemmas.List.{length_push, append-nil}
use Rattle.std.specs.Fmt.{char_count, format_spec, padded_integral, styled_decimal}
use Rattle.std.proofs.lemmas.Fmt.{decimal_digit, decimal_step, decimal_nonempty, length-decimal-le}
use Rattle.mx_files.specs.Names.{digits}

push_same : (digit width : ℕ) → replicate width digit ++ digit ∷ [] ≡ replicate (suc width) digit
push_same digit zero = refl
push_same digit (suc width) = ap (λ digits. digit ∷ digits) (push_same digit width)

only_zeros : (width : ℕ) → digits width 0 ≡ replicate width 48
only_zeros zero = refl
only_zeros (suc width) = ap (λ zeros. zeros ++ 48 ∷ []) (only_zeros width) ∙ push_same 48 width

-- the digits of a number that has no more of them
pub digits_padded : (width number : ℕ) → number < 2 ^ 64 → length (decimal number) ≤ width
    → digits width number ≡ replicate (width - length (decimal number)) 48 ++ decimal number
digits_padded zero number below fits = absurd (omega (arith, decimal_nonempty number below))
digits_padded (suc width) number below fits =
    by_size (digits_padded width (number / 10)) (cases_lt number 10)
  where
    last : List ℕ
    last = (48 + number % 10) ∷ []

    by_size : (number / 10 < 2 ^ 64 → length (decimal (number / 10)) ≤ width
        → digits width (number / 10) ≡ replicate (width - length (decimal (number / 10))) 48 ++ decimal (number / 10))
        → (number < 10) ⊎ (10 ≤ number)
        → digits (suc width) number ≡ replicate (suc width - length (decimal number)) 48 ++ decimal number
    by_size others (inl small) =
        let none : number / 10 ≡ 0 = omega arith in
        let itself : number % 10 ≡ number = omega arith in
        let one = decimal_digit number small in
        let alone : length (decimal number) ≡ 1 = ap length one in
        let room : suc width - length (decimal number) ≡ width = omega (arith, alone) in
        ap (λ n. digits width n ++ last) none
        ∙ ap (λ zeros. zeros ++ last) (only_zeros width)
        ∙ ap (λ n. replicate width 48 ++ (48 + n) ∷ []) itself
        ∙ sym (ap (λ n. replicate n 48 ++ decimal number) room ∙ ap (λ ds. replicate width 48 ++ ds) one)
    by_size others (inr large) =
        let step = decimal_step number large below in
        let longer : length (decimal number) ≡ length (decimal (number / 10)) + 1 = ap length step ∙ length_push (decimal (number / 10)) (48 + number % 10) in
        let room : suc width - length (decimal number) ≡ width - length (decimal (number / 10)) = omega arith in
        ap (λ ds. ds ++ last) (others (omega arith) (omega arith))
        ∙ append_assoc (replicate (width - length (decimal (number / 10))) 48) (decimal (number / 10)) last
        ∙ sym (ap (λ n. replicate n 48 ++ decimal number) room ∙ ap (λ ds. replicate (width - length (decimal (number / 10))) 48 ++ ds) step)

if_ok_weaker : {T E : Type 0} {P Q : T → Type 0} (result : Result T E) → ((x : T) → P x → Q x) → IfOk result P → IfOk result Q
if_ok_weaker (Ok x) weaker shown = weaker x shown
if_ok_weaker (Err e) weaker shown = tt

-- what a number writes in twenty places with zeros before it
abbrev pub in_twenty : ℕ → List ℕ
in_twenty number = styled_decimal (format_spec 32 0 4 20 18446744073709551615) number

in_twenty_digits : (number : ℕ) → number < 2 ^ 64 → in_twenty number ≡ digits 20 number
unfolding padded_integral char_count
in_twenty_digits number below =
    let less : ((20 - length (decimal number)) - 0) - 0 ≡ 20 - length (decimal number) = omega arith in
    ap (λ n. replicate n 48 ++ (decimal number ++ [])) less
    ∙ ap (λ text. replicate (20 - length (decimal number)) 48 ++ text) (append-nil (decimal number))
    ∙ sym (digits_padded 20 number below (length-decimal-le 20 number (omega arith) (omega arith) below))

-- a number in twenty places, and an ending
pub numbered : {Z E : Type 0} (number : ℕ) (ending : List ℕ) (result : Result (String Z) E) → number < 2 ^ 64
    → IfOk result (λ name. string_bytes name ≡ in_twenty number ++ ending) → IfOk result (λ name. string_bytes name ≡ digits 20 number ++ ending)
numbered number ending result below =
    if_ok_weaker result (λ name same. same ∙ ap (λ text. text ++ ending) (in_twenty_digits number below))
