-- The nine bytes of a number: the first, and then the eight of the rest.
use Rattle.std.proofs.Common.{◌≡◌, ℕ, ◌/◌, ◌%◌, ◌<◌, ◌^◌, [], ◌∷◌, arith}
use Rattle.byteorder.specs.Endian.{big_bytes}

module _ (number : ℕ) where
  digit_7 : (number % 2 ^ 64) / 72057594037927936 % 256 ≡ number / 72057594037927936 % 256
  digit_7 = omega arith

  digit_6 : (number % 2 ^ 64) / 281474976710656 % 256 ≡ number / 281474976710656 % 256
  digit_6 = omega arith

  digit_5 : (number % 2 ^ 64) / 1099511627776 % 256 ≡ number / 1099511627776 % 256
  digit_5 = omega arith

  digit_4 : (number % 2 ^ 64) / 4294967296 % 256 ≡ number / 4294967296 % 256
  digit_4 = omega arith

  digit_3 : (number % 2 ^ 64) / 16777216 % 256 ≡ number / 16777216 % 256
  digit_3 = omega arith

  digit_2 : (number % 2 ^ 64) / 65536 % 256 ≡ number / 65536 % 256
  digit_2 = omega arith

  digit_1 : (number % 2 ^ 64) / 256 % 256 ≡ number / 256 % 256
  digit_1 = omega arith

  digit_0 : (number % 2 ^ 64) % 256 ≡ number % 256
  digit_0 = omega arith

  first : number < 2 ^ 72 → number / 2 ^ 64 ≡ number / 2 ^ 64 % 256
  first fits = omega arith

  pub nine_bytes : number < 2 ^ 72 → number / 2 ^ 64 ∷ big_bytes 8 (number % 2 ^ 64) ≡ big_bytes 9 number
  nine_bytes fits = λ i. first fits i ∷ digit_7 i ∷ digit_6 i ∷ digit_5 i ∷ digit_4 i ∷ digit_3 i ∷ digit_2 i ∷ digit_1 i ∷ digit_0 i ∷ []
