-- What the shortest spelling of a key's part is read as.
use Rattle.std.proofs.Common.{◌≡◌, ℕ, zero, suc, ◌-◌, ◌^◌, ◌<◌, ◌≤◌, nat_lt, Bool, true, false, cond, List, [], ◌∷◌, length, take, Option, Some, None, Result, Ok, Err, refl, sym, subst, ap, ◌∙◌, inl, inr, arith}
use Rattle.std.specs.Prelude.{ℤ, pos, negsuc, ◌-ℤ◌, if◌then◌else◌}
use Rattle.std.proofs.lemmas.Bool.{le-ltb}
use Rattle.std.proofs.lemmas.Int.{ints}
use Rattle.std.proofs.lemmas.List.{append-nil, take_at, length-append}
use Rattle.std.specs.Int.{byte_at}
use Rattle.byteorder.specs.Endian.{big_bytes}
use Rattle.mx_msgpack.specs.declared.bad.Bad.{Bad}
use Rattle.mx_msgpack.specs.Grammar as grammar
use Rattle.mx_msgpack.specs.Grammar.{Value, Spells, SpellsInt, max_length}
use Rattle.mx_msgpack.specs.Reading.{Shown, ShownNil, ShownBool, ShownInt, ShownStr, ShownBin, ShownArray, ShownMap, ShownOpaque, shown, head_at, after_first, reading_of}
use Rattle.mx_msgpack.specs.Spelling.{AreBytes, shortest_int, str_head, bin_head}
use Rattle.mx_msgpack.specs.Types.{takes}
use Rattle.mx_msgpack.specs.Writing.{Fits64}
use Rattle.mx_msgpack.proofs.GrammarLaws.{ShowsIn, value_again, value_stands}
use Rattle.mx_msgpack.proofs.NumberSpellings.{bin_head_spelled, int_spelled, str_head_spelled}
use Rattle.mx_msgpack.proofs.PrefixLaws.{one_value}
use Rattle.mx_msgpack.proofs.Shown.{reads}
use Rattle.mx_msgpack.proofs.SpellingLaws.{shortest_spelled, wide_spelled}
use Rattle.mx_key.specs.declared.part.PartKind.{PartKind}
use Rattle.mx_key.specs.Arrays.{part_spelling, value_of_part}
use Rattle.mx_key.specs.Keys.{KeyPart, Boolean, Integer, Text, Binary, IsFit}
use Rattle.mx_key.specs.Parts.{part_in, part_of_type, part_read, part_shown, part_value_type}

-- ---- a part is spelled

byte_below : (place number : ℕ) → byte_at place number < 2 ^ 8
byte_below zero number = omega arith
byte_below (suc place) number = omega arith

bytes_of_number : (width number : ℕ) → AreBytes (big_bytes width number)
bytes_of_number zero number i = omega arith
bytes_of_number (suc width) number zero = byte_below width number
bytes_of_number (suc width) number (suc i) = bytes_of_number width number i

-- two's complement of a number below 0, in 8 bytes
wide_negative : (below : ℕ) → below < 2 ^ 63 → SpellsInt (negsuc below) (0xd3 ∷ big_bytes 8 (2 ^ 64 - suc below))
wide_negative below low =
    let high : nat_lt (2 ^ 64 - suc below) (2 ^ 63) ≡ false = le-ltb _ _ (omega arith) in
    let same : negsuc below ≡ (if nat_lt (2 ^ 64 - suc below) (2 ^ 63) then pos (2 ^ 64 - suc below) else pos (2 ^ 64 - suc below) -ℤ pos (2 ^ 64)) = rw high (omega (arith, ints)) in
    inr (inr (inr (inr (inr (2 ^ 64 - suc below, wide_spelled 0xd3 8 (2 ^ 64 - suc below) (omega arith), same)))))

wide_bytes : (leading width number : ℕ) → leading < 2 ^ 8 → AreBytes (leading ∷ big_bytes width number)
wide_bytes leading width number low zero = low
wide_bytes leading width number low (suc i) = bytes_of_number width number i

number_spelled : (number : ℤ) → Fits64 number → SpellsInt number (shortest_int number)
number_spelled (pos number) fits = inl (number, refl, shortest_spelled number fits)
number_spelled (negsuc below) fits =
    int_spelled (negsuc below) (0xd3 ∷ big_bytes 8 (2 ^ 64 - suc below)) (wide_bytes 0xd3 8 (2 ^ 64 - suc below) (omega arith)) (wide_negative below fits)

pub part_spelled : (room : ℕ) (part : KeyPart) → IsFit part → length (part_spelling part) ≤ max_length → Spells room (value_of_part part) (part_spelling part)
part_spelled room (Boolean truth) fit few = refl
part_spelled room (Integer number) fit few = number_spelled number fit
part_spelled room (Text text) fit few =
    let l = length-append (str_head (length text)) text in
    let short : length text ≤ max_length = omega arith in
    (str_head (length text), str_head_spelled (length text) short, short, refl)
part_spelled room (Binary content) fit few =
    let l = length-append (bin_head (length content)) content in
    let short : length content ≤ max_length = omega arith in
    (bin_head (length content), bin_head_spelled (length content) short, short, refl)

-- ---- and it is read again

same_some : (x y : KeyPart) → ◌≡◌ {A = Option KeyPart} (Some x) (Some y) → x ≡ y
same_some x y e = cc

abbrev part_of_value : Value → Option KeyPart
part_of_value (grammar.Boolean truth) = Some (Boolean truth)
part_of_value (grammar.Int number) = Some (Integer number)
part_of_value (grammar.Str text) = Some (Text text)
part_of_value (grammar.Bin content) = Some (Binary content)
part_of_value _ = None

abbrev as_shown : KeyPart → Shown
as_shown (Boolean truth) = ShownBool truth
as_shown (Integer number) = ShownInt number
as_shown (Text text) = ShownStr text
as_shown (Binary content) = ShownBin content

part_is_value : (part : KeyPart) → part_of_value (value_of_part part) ≡ Some part
part_is_value (Boolean truth) = refl
part_is_value (Integer number) = refl
part_is_value (Text text) = refl
part_is_value (Binary content) = refl

shows_part : (what : Shown) (value : Value) → ShowsIn 64 what value → part_shown what ≡ part_of_value value
shows_part ShownNil value e = ap part_of_value (sym e)
shows_part (ShownBool truth) value e = ap part_of_value (sym e)
shows_part (ShownInt number) value e = ap part_of_value (sym e)
shows_part (ShownStr text) value e = ap part_of_value (sym e)
shows_part (ShownBin content) value e = ap part_of_value (sym e)
shows_part (ShownArray count items) value (values, e, many, s) = ap part_of_value (sym e)
shows_part (ShownMap count items) value (pairs, e, many, s) = ap part_of_value (sym e)
shows_part (ShownOpaque spelling) value e = ap part_of_value (sym e)

shown_is : (what : Shown) (part : KeyPart) → part_shown what ≡ Some part → what ≡ as_shown part
shown_is (ShownBool truth) part e = ap as_shown (same_some (Boolean truth) part e)
shown_is (ShownInt number) part e = ap as_shown (same_some (Integer number) part e)
shown_is (ShownStr text) part e = ap as_shown (same_some (Text text) part e)
shown_is (ShownBin content) part e = ap as_shown (same_some (Binary content) part e)
shown_is _ part e = absurd cc

-- what spells a part shows it
spelling_read : (part : KeyPart) (bytes : List ℕ) → Spells 64 (value_of_part part) bytes → (size : ℕ) × (reading_of bytes ≡ Ok (as_shown part, size))
spelling_read part bytes s =
    let after : after_first (length bytes) 64 bytes ≡ Ok [] =
    ap (after_first (length bytes) 64) (sym (append-nil bytes)) ∙ value_again (length bytes) 64 (value_of_part part) bytes [] s in
    let v = value_stands (length bytes) 64 bytes [] after in
    let whole : bytes ≡ v.front = v.whole ∙ append-nil v.front in
    let one : v.value ≡ value_of_part part = one_value 64 v.value (value_of_part part) bytes (subst (Spells 64 v.value) (sym whole) v.spelled) s in
    let begins : head_at 0 bytes ≡ Ok (v.head, v.after) = let at : 0 ≡ length bytes - length bytes = omega arith in ap (λ (k : ℕ). head_at k bytes) at ∙ v.begins in
    let l = ap length v.parts ∙ length-append v.content [] in
    let inside : length v.content ≡ length v.after - 0 = omega arith in
    let content : take (length v.after - 0) v.after ≡ v.content = ap (take (length v.after - 0)) v.parts ∙ take_at v.content [] (length v.after - 0) inside in
    let n = append-nil v.front in
    let all : take (length bytes - 0) bytes ≡ v.front = ap (take (length bytes - 0)) v.whole ∙ take_at v.front [] (length bytes - 0) (let m = ap length whole in omega arith) in
    let shows = shows_part (shown v.head v.content v.front) v.value v.shows ∙ ap part_of_value one ∙ part_is_value part in
    (length bytes - 0, reads bytes v.head v.after [] begins after ∙ (λ i. Ok (shown v.head (content i) (all i), length bytes - 0)) ∙ ap (λ (what : Shown). Ok (what, length bytes - 0)) (shown_is (shown v.head v.content v.front) part shows))

-- and it is one of the type that another spelling of it has
pub part_again : (kind : PartKind) (part : KeyPart) (one other : List ℕ) → part_in kind one ≡ Some part → Spells 64 (value_of_part part) other → part_in kind other ≡ Some part
unfolding part_in
part_again kind part one other e s =
    let again = spelling_read part other s in
    ap (part_read kind) again.1 ∙ by_reading (reading_of one) e
  where
    by_test : (b : Bool) (what : Shown) → b ≡ takes (part_value_type kind) what → cond b (part_shown what) None ≡ Some part → part_of_type kind (as_shown part) ≡ Some part
    by_test true what is e = ap (part_of_type kind) (sym (shown_is what part e)) ∙ rw (← is) e
    by_test false what is e = absurd cc

    by_reading : (read : Result (Shown × ℕ) Bad) → part_read kind read ≡ Some part → part_of_type kind (as_shown part) ≡ Some part
    by_reading (Err bad) e = absurd cc
    by_reading (Ok (what, size)) e = by_test (takes (part_value_type kind) what) what refl e
