-- A number with a sign, as the code makes it of its bytes.
use Rattle.std.proofs.Common.{◌≡◌, ℕ, ◌-◌, ◌*◌, ◌^◌, ◌<◌, ◌≤◌, false, true, List, length, take, drop, Ok, refl, ◌∙◌, to_z, of_z, ℤ, pos, ◌-ℤ◌, ◌*ℤ◌, arith}
use Rattle.std.specs.Int.{w128}
use Rattle.std.specs.Int.Signed.{lt_z}
use Rattle.std.proofs.lemmas.Bool.{lt-ltb, le-ltb}
use Rattle.std.proofs.lemmas.Int.{ints}
use Rattle.byteorder.specs.Endian.{big_number, twos_complement}
use Rattle.mx_msgpack.specs.declared.head.Head.TheVariants.{Int}
use Rattle.mx_msgpack.specs.Reading.{signed_head}

module _ (width half number : ℕ) (at : 2 ^ (8 * width - 1) ≡ half) where
  pub twos-low : number < half → pos number ≡ twos_complement width number
  twos-low lt = rw (at, lt-ltb number half lt) refl

  pub twos-high : 2 ^ (8 * width) ≡ 2 * half → half ≤ number → pos number -ℤ pos (2 * half) ≡ twos_complement width number
  twos-high twice le = rw (at, twice, le-ltb number half le) refl

-- half of what so many bytes can say, and the code's limit
pub record IsLimit (width : ℕ) (limit : ℤ) : Type 0 where
  pub half : ℕ
  pub at : 2 ^ (8 * width - 1) ≡ half
  pub twice : 2 ^ (8 * width) ≡ 2 * half
  pub is : limit ≡ pos half
  pub room : half ≤ 2 ^ 63

pub limit_1 : (width : ℕ) (limit : ℤ) → width ≡ 1 → limit ≡ pos (2 ^ 7) → IsLimit width limit
limit_1 width limit e is = record { half = 2 ^ 7; at = rw e refl; twice = rw e refl; is = is; room = omega arith }

pub limit_2 : (width : ℕ) (limit : ℤ) → width ≡ 2 → limit ≡ pos (2 ^ 15) → IsLimit width limit
limit_2 width limit e is = record { half = 2 ^ 15; at = rw e refl; twice = rw e refl; is = is; room = omega arith }

pub limit_4 : (width : ℕ) (limit : ℤ) → width ≡ 4 → limit ≡ pos (2 ^ 31) → IsLimit width limit
limit_4 width limit e is = record { half = 2 ^ 31; at = rw e refl; twice = rw e refl; is = is; room = omega arith }

pub limit_8 : (width : ℕ) (limit : ℤ) → width ≡ 8 → limit ≡ pos (2 ^ 63) → IsLimit width limit
limit_8 width limit e is = record { half = 2 ^ 63; at = rw e refl; twice = rw e refl; is = is; room = omega arith }

-- what the code makes of a number, of which `z` is the value
module _ (width number : ℕ) (limit signed z : ℤ) (l : IsLimit width limit) (fits : number < 2 ^ 64) (value : z ≡ pos number) where
  pub signed_low : lt_z (to_z w128 (of_z w128 z)) limit ≡ true → signed ≡ to_z w128 (of_z w128 z) → signed ≡ twos_complement width number
  signed_low test e =
      let same : to_z w128 (of_z w128 z) ≡ pos number = omega (arith, ints) in
      let t = rw (same, l.is) at test in
      let lt : number < l.half = omega (arith, ints) in
      e ∙ same ∙ twos-low width l.half number l.at lt

  pub signed_high : lt_z (to_z w128 (of_z w128 z)) limit ≡ false
      → signed ≡ to_z w128 (of_z w128 (to_z w128 (of_z w128 z) -ℤ to_z w128 (of_z w128 (pos 2 *ℤ limit)))) → signed ≡ twos_complement width number
  signed_high test e =
      let room = l.room in
      let same : to_z w128 (of_z w128 z) ≡ pos number = omega (arith, ints) in
      let t = rw (same, l.is) at test in
      let le : l.half ≤ number = omega (arith, ints) in
      let s = rw l.is at e in
      let whole : signed ≡ pos number -ℤ pos (2 * l.half) = omega (arith, ints) in
      whole ∙ twos-high width l.half number l.at l.twice le

-- the head of a number with a sign, and the bytes after it
pub signed_is : (width : ℕ) (rest back : List ℕ) (signed : ℤ) → width ≤ length rest → signed ≡ twos_complement width (big_number width (take width rest)) → back ≡ drop width rest
    → signed_head width rest ≡ Ok (Int signed, back)
signed_is width rest back signed long is after = rw (le-ltb (length rest) width long, is, after) refl
