-- No line of a header has a newline in it.
use Rattle.std.proofs.Common.{◌≡◌, ℕ, zero, suc, ◌+◌, ◌<◌, ◌^◌, Bool, true, false, if◌then◌else◌, List, [], ◌∷◌, ◌++◌, length, sym, subst, arith}
use Rattle.std.specs.Fmt.{decimal}
use Rattle.std.specs.Str.Parse.{AllDigits}
use Rattle.std.proofs.lemmas.Fmt.{decimal_is_IsNumeral}
use Rattle.std.proofs.lemmas.Str.Parse.{digit_from_value}
use Rattle.std.proofs.lemmas.Bool.Decides.{nat_tests}
use Rattle.uuid.specs.Text.{by_index, nibble, hyphenated_text, lower, digit_place, is_hyphen_place, hyphen, hex_digit}
use Rattle.uuid.proofs.TextLemmas.{nibble_small}
use Rattle.mx_vclock.specs.Vclocks.{IsVclock}
use Rattle.mx_vclock.specs.Text.{vclock_text}
use Rattle.mx_vclock.proofs.Tails.{named, more, first, text_is_first}
use Rattle.mx_vclock.proofs.Fitting.{Bounded, all_right}
use Rattle.mx_xlog.specs.Lines.{IsLine}

pub line-append : (front back : List ℕ) → IsLine front → IsLine back → IsLine (front ++ back)
line-append [] back f b = b
line-append (byte ∷ front) back f b = (f.0, line-append front back f.1 b)

digits_line : (bytes : List ℕ) → AllDigits 10 bytes → IsLine bytes
digits_line [] d = tt
digits_line (byte ∷ bytes) d = ((λ is. omega (arith, digit_from_value byte d.0)), digits_line bytes d.1)

pub decimal_line : (number : ℕ) → number < 2 ^ 64 → IsLine (decimal number)
decimal_line number small = digits_line (decimal number) (decimal_is_IsNumeral number small).0.1

by_index_line : (n : ℕ) (f : ℕ → ℕ) → ((at : ℕ) → f at ≡ 10 → ⊥) → IsLine (by_index n f)
unfolding by_index
by_index_line zero f other = tt
by_index_line (suc n) f other = line-append (by_index n f) (f n ∷ []) (by_index_line n f other) (other n, tt)

place_other : (place : Bool) (digit : ℕ) → digit < 16 → (if place then hyphen else hex_digit lower digit) ≡ 10 → ⊥
place_other true digit small is = omega arith
place_other false digit small is = grind (arith, nat_tests)

pub id_line : (id : List ℕ) → IsLine (hyphenated_text lower id)
id_line id = by_index_line 36 _ (λ at. place_other (is_hyphen_place at) (nibble id (digit_place at)) (nibble_small id (digit_place at)))

named_line : (id lsn : ℕ) (rest : List ℕ) → id < 2 ^ 64 → lsn < 2 ^ 64 → IsLine rest → IsLine (named id lsn rest)
named_line id lsn rest small bounded line =
    line-append (decimal id) (58 ∷ 32 ∷ (decimal lsn ++ rest)) (decimal_line id small)
    ((λ is. omega arith), ((λ is. omega arith), line-append (decimal lsn) rest (decimal_line lsn bounded) line))

more_line : (id : ℕ) (lsns : List ℕ) → id + length lsns < 2 ^ 64 → Bounded lsns → IsLine (more id lsns)
more_line id [] small bounded = ((λ is. omega arith), tt)
more_line id (zero ∷ lsns) small bounded = more_line (suc id) lsns (omega arith) (all_right (0 ∷ []) lsns bounded)
more_line id (suc lsn ∷ lsns) small bounded =
    let rest = named_line id (suc lsn) (more (suc id) lsns) (omega arith) (omega (arith, bounded 0 0 (omega arith))) (more_line (suc id) lsns (omega arith) (all_right (suc lsn ∷ []) lsns bounded)) in
    ((λ is. omega arith), ((λ is. omega arith), rest))

first_line_of : (id : ℕ) (lsns : List ℕ) → id + length lsns < 2 ^ 64 → Bounded lsns → IsLine (first id lsns)
first_line_of id [] small bounded = ((λ is. omega arith), tt)
first_line_of id (zero ∷ lsns) small bounded = first_line_of (suc id) lsns (omega arith) (all_right (0 ∷ []) lsns bounded)
first_line_of id (suc lsn ∷ lsns) small bounded =
    named_line id (suc lsn) (more (suc id) lsns) (omega arith) (omega (arith, bounded 0 0 (omega arith))) (more_line (suc id) lsns (omega arith) (all_right (suc lsn ∷ []) lsns bounded))

pub clock_line : (clock : List ℕ) → IsVclock clock → IsLine (vclock_text clock)
clock_line clock sound =
    subst IsLine (sym (text_is_first clock)) ((λ is. omega arith), first_line_of 0 clock (omega (arith, sound.whole)) sound.bounded)
