-- Which of the definitions of heads speaks of a leading byte.
use Rattle.std.proofs.Common.{◌≡◌, ℕ, ◌<◌, ◌≤◌, true, false, ltb, List, ◌∷◌, refl, arith}
use Rattle.std.proofs.lemmas.Bool.{lt-ltb, le-ltb}
use Rattle.mx_msgpack.specs.Reading.{head_at, low_head, number_head}

module _ (at leading : ℕ) (bytes rest : List ℕ) (is : bytes ≡ leading ∷ rest) where
  pub leads_low : 0xc0 ≤ leading → leading < 0xca → head_at at bytes ≡ low_head at leading rest
  unfolding head_at
  leads_low low high =
      let f1 : ltb leading 0x80 ≡ false = le-ltb _ _ (omega arith) in
      let f2 : ltb leading 0x90 ≡ false = le-ltb _ _ (omega arith) in
      let f3 : ltb leading 0xa0 ≡ false = le-ltb _ _ (omega arith) in
      let f4 : ltb leading 0xc0 ≡ false = le-ltb _ _ low in
      let t : ltb leading 0xca ≡ true = lt-ltb _ _ high in
      rw (is, f1, f2, f3, f4, t) refl

  pub leads_number : 0xca ≤ leading → leading < 0xd9 → head_at at bytes ≡ number_head leading rest
  unfolding head_at
  leads_number low high =
      let f1 : ltb leading 0x80 ≡ false = le-ltb _ _ (omega arith) in
      let f2 : ltb leading 0x90 ≡ false = le-ltb _ _ (omega arith) in
      let f3 : ltb leading 0xa0 ≡ false = le-ltb _ _ (omega arith) in
      let f4 : ltb leading 0xc0 ≡ false = le-ltb _ _ (omega arith) in
      let f5 : ltb leading 0xca ≡ false = le-ltb _ _ low in
      let t : ltb leading 0xd9 ≡ true = lt-ltb _ _ high in
      rw (is, f1, f2, f3, f4, f5, t) refl
