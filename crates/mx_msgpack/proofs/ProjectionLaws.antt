-- A projection decides what is shown.
use Rattle.std.proofs.Common.{◌≡◌, ℕ, List, Option, Some, None, Result, Ok, Err, refl, ap}
use Rattle.std.specs.Prelude.{ℤ, pos, negsuc}
use Rattle.std.specs.Option.{option_and_then}
use Rattle.std.specs.Result.{result_ok}
use Rattle.mx_msgpack.specs.declared.bad.Bad.{Bad}
use Rattle.mx_msgpack.specs.Reading.{Shown, ShownInt, ShownStr, ShownArray, ShownMap, reading_of}
use Rattle.mx_msgpack.specs.Projections.{as_int, as_text, as_array, as_map, shown_first, first_as}
use Rattle.mx_msgpack.specs.Readers.{as_unsigned}
use Rattle.mx_msgpack.proofs.Options.{same_some}

read_is : (read : Result (Shown × ℕ) Bad) (first : Shown × ℕ) → result_ok read ≡ Some first → read ≡ Ok first
read_is (Ok x) first e = ap (λ (y : Shown × ℕ). Ok y) (same_some x first e)
read_is (Err bad) first e = absurd cc

pub first_read : (bytes : List ℕ) (first : Shown × ℕ) → shown_first bytes ≡ Some first → reading_of bytes ≡ Ok first
first_read bytes first e = read_is (reading_of bytes) first e

pub first_as_read : {X : Type 0} (projection : Shown → Option X) (bytes : List ℕ) (x : X) → first_as projection bytes ≡ Some x
    → (what : Shown) × (size : ℕ) × (reading_of bytes ≡ Ok (what, size)) × (projection what ≡ Some x)
first_as_read projection bytes x e = by_first (shown_first bytes) refl e
  where
    by_first : (first : Option (Shown × ℕ)) → shown_first bytes ≡ first → option_and_then (λ (f : Shown × ℕ). projection f.0) first ≡ Some x
        → (what : Shown) × (size : ℕ) × (reading_of bytes ≡ Ok (what, size)) × (projection what ≡ Some x)
    by_first None is e = absurd cc
    by_first (Some (what, size)) is e = (what, size, first_read bytes (what, size) is, e)

pub int_is : (what : Shown) (number : ℤ) → as_int what ≡ Some number → what ≡ ShownInt number
int_is (ShownInt other) number e = ap (λ (n : ℤ). ShownInt n) (same_some other number e)
int_is _ number e = absurd cc

pub text_is : (what : Shown) (text : List ℕ) → as_text what ≡ Some text → what ≡ ShownStr text
text_is (ShownStr other) text e = ap (λ (l : List ℕ). ShownStr l) (same_some other text e)
text_is _ text e = absurd cc

pub array_is : (what : Shown) (array : ℕ × List ℕ) → as_array what ≡ Some array → what ≡ ShownArray array.0 array.1
array_is (ShownArray count items) array e = ap (λ (x : ℕ × List ℕ). ShownArray x.0 x.1) (same_some (count, items) array e)
array_is _ array e = absurd cc

pub map_is : (what : Shown) (map : ℕ × List ℕ) → as_map what ≡ Some map → what ≡ ShownMap map.0 map.1
map_is (ShownMap count items) map e = ap (λ (x : ℕ × List ℕ). ShownMap x.0 x.1) (same_some (count, items) map e)
map_is _ map e = absurd cc

pub unsigned_is : (number : ℤ) (unsigned : ℕ) → as_unsigned number ≡ Some unsigned → number ≡ pos unsigned
unsigned_is (pos other) unsigned e = ap (λ (n : ℕ). pos n) (same_some other unsigned e)
unsigned_is (negsuc below) unsigned e = absurd cc
