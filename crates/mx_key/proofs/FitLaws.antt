-- A part that is read from bytes fits: its number has 64 bits.
use Rattle.std.proofs.Common.{◌≡◌, ℕ, Bool, true, false, List, take, Option, Some, None, subst, sym, inl, inr, to_z, of_z, arith}
use Rattle.std.specs.Prelude.{ℤ, pos, negsuc, if◌then◌else◌}
use Rattle.std.specs.Int.{w128}
use Rattle.std.proofs.lemmas.Int.{ints}
use Rattle.mx_msgpack.specs.Grammar.{Value, Spells}
use Rattle.mx_msgpack.specs.Reading.{Shown, ShownBool, ShownInt, ShownStr, ShownBin}
use Rattle.mx_msgpack.specs.Spelling.{AreBytes}
use Rattle.mx_msgpack.specs.Types.{takes}
use Rattle.mx_msgpack.specs.View.{Shows}
use Rattle.mx_msgpack.specs.Writing.{Fits64}
use Rattle.mx_msgpack.proofs.NumberLaws.{FitsBytes, number_fits}
use Rattle.mx_key.specs.Keys.{KeyPart, Boolean, Integer, Text, Binary, IsFit}
use Rattle.mx_key.specs.declared.part.PartKind.{PartKind}
use Rattle.mx_key.specs.Parts.{part_value_type, part_of_type, part_shown}

has_64_bits : (number : ℤ) → FitsBytes number → Fits64 number
has_64_bits number (inl (n, is, below)) = subst Fits64 (sym is) below
has_64_bits number (inr (n, is, below)) = subst Fits64 (sym is) below

same_part : (x y : KeyPart) → ◌≡◌ {A = Option KeyPart} (Some x) (Some y) → x ≡ y
same_part x y e = cc

pub part_fits : (bytes : List ℕ) (size : ℕ) (value : Value) (shown : Shown) (part : KeyPart) → AreBytes bytes → Spells 64 value (take size bytes)
    → Shows shown value → part_shown shown ≡ Some part → IsFit part
part_fits bytes size value (ShownInt number) part each spelled is e =
    subst IsFit (same_part (Integer number) part e) (has_64_bits number (number_fits bytes size number value each spelled is))
part_fits bytes size value (ShownBool truth) part each spelled is e = subst IsFit (same_part (Boolean truth) part e) tt
part_fits bytes size value (ShownStr text) part each spelled is e = subst IsFit (same_part (Text text) part e) tt
part_fits bytes size value (ShownBin content) part each spelled is e = subst IsFit (same_part (Binary content) part e) tt
part_fits bytes size value _ part each spelled is e = absurd cc

-- and so does one of a type
pub shown_fits : (kind : PartKind) (bytes : List ℕ) (size : ℕ) (value : Value) (shown : Shown) (part : KeyPart) → AreBytes bytes → Spells 64 value (take size bytes)
    → Shows shown value → part_of_type kind shown ≡ Some part → IsFit part
shown_fits kind bytes size value shown part each spelled is e =
    by_test (takes (part_value_type kind) shown) e
  where
    by_test : (b : Bool) → (if b then part_shown shown else None) ≡ Some part → IsFit part
    by_test true found = part_fits bytes size value shown part each spelled is found
    by_test false found = absurd cc

-- a number of 64 bits is the same in 128
pub wide_kept : (number : ℤ) → Fits64 number → to_z w128 (of_z w128 number) ≡ number
wide_kept (pos number) fits = omega (arith, ints)
wide_kept (negsuc below) fits = omega (arith, ints)
