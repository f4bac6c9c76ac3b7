-- A number that stands in bytes has at most 64 bits.
use Rattle.std.proofs.Common.{◌≡◌, ℕ, ◌^◌, true, List, take, refl, sym, subst, ◌∙◌, ap, inl, inr, lt-ltb, Some, None, Option, Ok, to_z, of_z, arith}
use Rattle.std.specs.Prelude.{ℤ, pos, negsuc, if◌then◌else◌}
use Rattle.std.specs.Int.{w128}
use Rattle.std.proofs.lemmas.Int.{ints}
use Rattle.mx_msgpack.specs.Grammar.{Value, Spells}
use Rattle.mx_msgpack.specs.Projections.{as_int, first_as}
use Rattle.mx_msgpack.specs.Spelling.{AreBytes}
use Rattle.mx_msgpack.specs.Reading.{ShownInt, reading_of}
use Rattle.mx_msgpack.specs.View.{Shows}
use Rattle.mx_msgpack.specs.Writing.{Fits64}
use Rattle.mx_msgpack.proofs.NumberLaws.{FitsBytes, number_fits}
use Rattle.mx_update.specs.Updates.{is_64_bits}

has_64_bits : (number : ℤ) → FitsBytes number → is_64_bits number ≡ true
has_64_bits number (inl (n, is, below)) = rw is (lt-ltb n (2 ^ 64) below)
has_64_bits number (inr (n, is, below)) = rw is (lt-ltb n (2 ^ 63) below)

fits_64 : (number : ℤ) → FitsBytes number → Fits64 number
fits_64 number (inl (n, is, below)) = subst Fits64 (sym is) below
fits_64 number (inr (n, is, below)) = subst Fits64 (sym is) below

-- a number of 64 bits is the same in 128
pub wide_kept : (number : ℤ) → Fits64 number → to_z w128 (of_z w128 number) ≡ number
wide_kept (pos number) fits = omega (arith, ints)
wide_kept (negsuc below) fits = omega (arith, ints)

abbrev checked : ℤ → Option ℤ
checked number = if is_64_bits number then Some number else None

pub number_kept : (bytes : List ℕ) (size : ℕ) (value : Value) (number : ℤ) → AreBytes bytes → Spells 64 value (take size bytes) → Shows (ShownInt number) value
    → checked (to_z w128 (of_z w128 number)) ≡ Some number
number_kept bytes size value number each spelled is =
    let fits = number_fits bytes size number value each spelled is in
    ap checked (wide_kept number (fits_64 number fits)) ∙ rw (has_64_bits number fits) refl

pub int_shown : (bytes : List ℕ) (number : ℤ) (size : ℕ) → reading_of bytes ≡ Ok (ShownInt number, size) → first_as as_int bytes ≡ Some number
int_shown bytes number size read = rw read refl
