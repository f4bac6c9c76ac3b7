-- What the text of an identifier and of a vclock says.
use Rattle.std.proofs.Common.{◌≡◌, ℕ, suc, ◌+◌, ◌<◌, ◌≤◌, ◌/◌, ◌%◌, Bool, true, false, if◌then◌else◌, Some, List, ◌++◌, length, drop, slice_index, All, not, nat_eq, ◌∷◌, [], IsTrue, ◌↔◌, ◌⊎◌, inl, inr, refl, sym, ap, subst, ◌∙◌, arith, ◌==◌}
use Rattle.std.proofs.lemmas.Bool.{cases_lt}
use Rattle.std.specs.Cmp.Lexicographic.{pointwise, same_text, other_text}
use Rattle.std.specs.Fmt.{decimal}
use Rattle.std.proofs.lemmas.Fmt.{decimal_digit, decimal_step}
use Rattle.std.proofs.lemmas.Bool.Decides.{nat_tests}
use Rattle.std.proofs.lemmas.List.{take-append-drop}
use Rattle.uuid.specs.Text.{by_index, nibble, hyphenated_text, lower, digit_place, is_hyphen_place, hyphen, hex_digit, parsed}
use Rattle.uuid.proofs.TextLemmas.{by_index_length, by_index_at, by_index_cong}
use Rattle.uuid.proofs.RoundTrips.{parses_hyphenated}
use Rattle.mx_vclock.specs.Text.{IsText, IsFaultAt}

-- sixteen bytes with the same text
abbrev bytes_of : List ℕ → List ℕ
bytes_of id = by_index 16 (λ at. slice_index id at % 256)

same_half : (high : Bool) (byte : ℕ) → (if high then byte % 256 / 16 % 16 else byte % 256 % 16) ≡ (if high then byte / 16 % 16 else byte % 16)
same_half true byte = omega arith
same_half false byte = omega arith

same_nibble : (id : List ℕ) (at : ℕ) → at < 32 → nibble (bytes_of id) at ≡ nibble id at
same_nibble id at within =
    ap (λ byte. if at % 2 == 0 then byte / 16 % 16 else byte % 16) (by_index_at 16 (λ n. slice_index id n % 256) (at / 2) 0 (omega arith))
    ∙ same_half (at % 2 == 0) (slice_index id (at / 2))

digit_within : (at : ℕ) → at < 36 → digit_place at < 32
digit_within at within = grind (arith, nat_tests)

same_id_text : (id : List ℕ) → hyphenated_text lower (bytes_of id) ≡ hyphenated_text lower id
same_id_text id =
    by_index_cong 36 _ _ (λ at within. ap (λ n. if is_hyphen_place at then hyphen else hex_digit lower n) (same_nibble id (digit_place at) (digit_within at within)))

id_parses : (id : List ℕ) → Some (bytes_of id) ≡ parsed (hyphenated_text lower id)
id_parses id =
    let small : All (λ byte. byte < 256) (bytes_of id) = λ at default within.
    subst (λ byte. byte < 256) (sym (by_index_at 16 (λ n. slice_index id n % 256) at default (omega (arith, by_index_length 16 (λ n. slice_index id n % 256))))) (omega arith) in
    parses_hyphenated lower (bytes_of id) (inl refl) (by_index_length 16 _) small ∙ ap parsed (same_id_text id)

-- the text of an identifier parses
pub id_text_parses : (id text : List ℕ) → text ≡ hyphenated_text lower id → (found : List ℕ) × (parsed text ≡ Some found)
id_text_parses id text is = (bytes_of id, ap parsed is ∙ sym (id_parses id))

-- and what it parses to has the same text
pub id_text_again : (id found text : List ℕ) → text ≡ hyphenated_text lower id → Some found ≡ parsed text → hyphenated_text lower found ≡ text
id_text_again id found text is parses =
    let same : found ≡ bytes_of id = some_same found (bytes_of id) (parses ∙ ap parsed is ∙ sym (id_parses id)) in
    ap (hyphenated_text lower) same ∙ same_id_text id ∙ sym is
  where
    some_same : (x y : List ℕ) → Some x ≡ Some y → x ≡ y
    some_same x y e = cc

-- bytes with a fault are no text of a vclock
pub faulty : (bytes : List ℕ) (at : ℕ) → IsFaultAt bytes at → ¬ IsText bytes
faulty bytes at fault text = by_order (cases_lt at (length bytes))
  where
    by_order : (at < length bytes) ⊎ (length bytes ≤ at) → ⊥
    by_order (inl within) = fault.stops within (text.0, drop (suc at) bytes, text.1, sym text.2 ∙ sym (take-append-drop (suc at) bytes))
    by_order (inr end) = fault.unfinished (omega (arith, fault.within)) text

-- what a comparison of bytes answers
pub compared : (answer : Bool) (text other whole : List ℕ) → answer ≡ pointwise nat_eq text other → other ≡ whole → IsTrue answer ↔ (text ≡ whole)
compared answer text other whole is same = (
  λ told. same_text text other (sym told ∙ is) ∙ same,
  by_answer answer is,
)
  where
    by_answer : (answer : Bool) → answer ≡ pointwise nat_eq text other → text ≡ whole → IsTrue answer
    by_answer true is found = refl
    by_answer false is found = absurd (other_text text other is (found ∙ sym same))

pub two_digits : (number : ℕ) → 10 ≤ number → number < 100 → (48 + number / 10) ∷ (48 + number % 10) ∷ [] ≡ decimal number
two_digits number high low =
    sym (decimal_step number high (omega arith) ∙ ap (λ front. front ++ (48 + number % 10) ∷ []) (decimal_digit (number / 10) (omega arith)))

-- bytes that a comparison found other
pub told_apart : (xs ys : List ℕ) → true ≡ not (pointwise nat_eq xs ys) → ¬ (xs ≡ ys)
told_apart xs ys told = by_answer (pointwise nat_eq xs ys) refl told
  where
    by_answer : (answer : Bool) → answer ≡ pointwise nat_eq xs ys → true ≡ not answer → ¬ (xs ≡ ys)
    by_answer true is told = cc
    by_answer false is told = other_text xs ys is

-- what no number below has, and the next one doesn't have either
pub one_more : (P : ℕ → Type 0) (limit : ℕ) → ((number : ℕ) → number < limit → ¬ P number) → ¬ P limit → (number : ℕ) → number < limit + 1 → ¬ P number
one_more P limit before last number below has = by_order (cases_lt number limit)
  where
    by_order : (number < limit) ⊎ (limit ≤ number) → ⊥
    by_order (inl less) = before number less has
    by_order (inr most) =
        let same : number ≡ limit = omega (arith, below) in
        last (subst P same has)
