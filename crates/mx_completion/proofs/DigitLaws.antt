-- The number of digits of which the last ones are missing.
use Rattle.std.proofs.Common.{◌≡◌, ◌⊎◌, inl, inr, ℕ, zero, suc, ◌+◌, ◌*◌, ◌-◌, ◌^◌, ◌<◌, ◌≤◌, List, [], ◌∷◌, ◌++◌, length, replicate, refl, sym, ap, ◌∙◌, arith}
use Rattle.std.proofs.Math.Nat.{add-mul, mul_assoc, pow-suc, one-le-pow, mul-le-mul_right}
use Rattle.std.proofs.lemmas.Nat.{pow-add}
use Rattle.std.proofs.lemmas.List.{append-nil}
use Rattle.std.specs.Int.{byte_at}
use Rattle.byteorder.specs.Endian.{big_number, big_bytes}
use Rattle.byteorder.specs.Numbers.{big_from-cons, big_from-lt, big_number-reads_back, length-bytes_high_first}
use Rattle.mx_msgpack.specs.Spelling.{AreBytes}
use Rattle.mx_completion.specs.NumberForms.{filled}

-- the number of digits in two parts
big_number-append : (high low : List ℕ) (n : ℕ) → big_number (length high + n) (high ++ low) ≡ big_number (length high) high * 256 ^ n + big_number n low
big_number-append [] low n =
    let same : 0 + n ≡ n = omega arith in
    ap (λ (k : ℕ). big_number k low) same ∙ omega arith
big_number-append (digit ∷ high) low n =
    let one_more : suc (length high) + n ≡ suc (length high + n) = omega arith in
    let moved = big_from-cons 0 (length high + n) digit (high ++ low) in
    let others = big_from-cons 0 (length high) digit high in
    let rest = big_number-append high low n in
    let power = pow-add 256 (length high) n in
    let spread = add-mul (digit * 256 ^ length high) (big_number (length high) high) (256 ^ n) in
    let product = mul_assoc digit (256 ^ length high) (256 ^ n) in
    rw (one_more, moved, others, rest, power, spread, product) (omega arith)

zeros : (n many : ℕ) → n ≤ many → big_number n (replicate many 0) ≡ 0
zeros zero many few = refl
zeros (suc n) zero few = absurd (omega arith)
zeros (suc n) (suc many) few =
    let moved = big_from-cons 0 n 0 (replicate many 0) in
    let rest = zeros n many (omega arith) in
    omega arith

tops : (n many : ℕ) → n ≤ many → big_number n (replicate many 255) + 1 ≡ 256 ^ n
tops zero many few = refl
tops (suc n) zero few = absurd (omega arith)
tops (suc n) (suc many) few =
    let moved = big_from-cons 0 n 255 (replicate many 255) in
    let rest = tops n many (omega arith) in
    let power = pow-suc 256 n in
    rw (moved, power) (omega arith)

pub big_bytes-bytes : (n number : ℕ) → AreBytes (big_bytes n number)
big_bytes-bytes zero number i = omega arith
big_bytes-bytes (suc n) number zero = byte n number
  where
    byte : (place number : ℕ) → byte_at place number < 2 ^ 8
    byte zero number = omega arith
    byte (suc place) number = omega arith
big_bytes-bytes (suc n) number (suc i) = big_bytes-bytes n number i

power_more : (n : ℕ) → 1 ≤ n → 256 ≤ 256 ^ n
power_more zero some = absurd (omega arith)
power_more (suc n) some =
    let step = pow-suc 256 n in
    let one = one-le-pow n 256 (omega arith) in
    omega arith

-- ---- all digits filled with one byte

module _ (width : ℕ) (digits : List ℕ) (n : ℕ) (all : length digits + n ≡ width) where
  abbrev high : ℕ
  high = big_number (length digits) digits * 256 ^ n

  with_others : (others : List ℕ) → big_number width (digits ++ others) ≡ high + big_number n others
  with_others others = ap (λ (k : ℕ). big_number k (digits ++ others)) (sym all) ∙ big_number-append digits others n

  module _ (few : width ≤ 8) where
    least_is : filled 0x00 width digits ≡ high
    least_is =
        let rest = zeros n (8 - length digits) (omega arith) in
        let parts = with_others (replicate (8 - length digits) 0) in
        omega arith

    greatest_is : filled 0xff width digits + 1 ≡ high + 256 ^ n
    greatest_is =
        let rest = tops n (8 - length digits) (omega arith) in
        let parts = with_others (replicate (8 - length digits) 255) in
        omega arith

    pub filled_within : (missing : List ℕ) → length missing ≡ n → AreBytes missing
        → (filled 0x00 width digits ≤ big_number width (digits ++ missing)) × (big_number width (digits ++ missing) ≤ filled 0xff width digits)
    filled_within missing size each =
        let parts = with_others missing in
        let low = big_from-lt 0 n missing (λ k. let byte = each k in omega arith) in
        let least = least_is in
        let most = greatest_is in
        (omega arith, omega arith)

    pub filled_between : (number : ℕ) → filled 0x00 width digits ≤ number → number ≤ filled 0xff width digits
        → (missing : List ℕ) × AreBytes missing × (length missing ≡ n) × (number ≡ big_number width (digits ++ missing))
    filled_between number from to =
        let least = least_is in
        let most = greatest_is in
        let low = number - high in
        let missing = big_bytes n low in
        let fits : low < 256 ^ n = omega arith in
        let back : big_number n missing ≡ low = ap (big_number n) (sym (append-nil missing)) ∙ big_number-reads_back n low [] fits in
        let parts = with_others missing in
        (missing, big_bytes-bytes n low, length-bytes_high_first n low, omega arith)

    -- where a digit is missing, so many numbers can be reached
    pub filled_apart : 1 ≤ n → filled 0x00 width digits + 255 ≤ filled 0xff width digits
    filled_apart some =
        let least = least_is in
        let most = greatest_is in
        let power = power_more n some in
        omega arith

    pub filled_high : 1 ≤ n → (filled 0x00 width digits ≡ 0) ⊎ (256 ≤ filled 0x00 width digits)
    filled_high some = by (big_number (length digits) digits) refl
      where
        by : (number : ℕ) → big_number (length digits) digits ≡ number → (filled 0x00 width digits ≡ 0) ⊎ (256 ≤ filled 0x00 width digits)
        by zero is = inl (least_is ∙ ap (λ (k : ℕ). k * 256 ^ n) is ∙ omega arith)
        by (suc number) is =
            let least : filled 0x00 width digits ≡ suc number * 256 ^ n = least_is ∙ ap (λ (k : ℕ). k * 256 ^ n) is in
            let power = power_more n some in
            let one : 1 * 256 ^ n ≤ suc number * 256 ^ n = mul-le-mul_right (256 ^ n) (omega arith) in
            inr (omega arith)
