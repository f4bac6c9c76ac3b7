-- Bytes with escapes, from one byte 0 to the next.
use Rattle.std.proofs.Common.{◌≡◌, ℕ, zero, suc, ◌<◌, ◌≤◌, List, [], ◌∷◌, ◌++◌, length, take, drop, refl, sym, ap, ◌∙◌, append_assoc, arith}
use Rattle.std.proofs.lemmas.Bool.{eqb-true}
use Rattle.std.proofs.lemmas.List.{length-drop}
use Rattle.memchr.specs.Find.{Nowhere, NoneBefore, Passes, is_byte}
use Rattle.mx_key.specs.Comparable.{with_escapes}

abbrev IsZeroAt : List ℕ → ℕ → Type 0
IsZeroAt bytes place = Passes (is_byte 0) bytes place

-- bytes without a byte 0 stay as they are
none_escaped : (bytes : List ℕ) → Nowhere (IsZeroAt bytes) 0 (length bytes) → with_escapes bytes ≡ bytes
none_escaped [] nowhere = refl
none_escaped (zero ∷ bytes) nowhere = absurd (nowhere 0 (omega arith) (omega arith) refl)
none_escaped (suc byte ∷ bytes) nowhere = ap (λ (l : List ℕ). suc byte ∷ l) (none_escaped bytes (λ place low high. nowhere (suc place) (omega arith) (omega arith)))

-- and so do those up to the first one
first_escaped : (bytes : List ℕ) (place : ℕ) → place < length bytes → Nowhere (IsZeroAt bytes) 0 place → IsZeroAt bytes place
    → with_escapes bytes ≡ take place bytes ++ 0 ∷ 255 ∷ with_escapes (drop 1 (drop place bytes))
first_escaped [] place within before is = absurd (omega arith)
first_escaped (zero ∷ bytes) zero within before is = refl
first_escaped (suc byte ∷ bytes) zero within before is = let none : suc byte ≡ 0 = eqb-true (suc byte) 0 is in absurd (omega arith)
first_escaped (zero ∷ bytes) (suc place) within before is = absurd (before 0 (omega arith) (omega arith) refl)
first_escaped (suc byte ∷ bytes) (suc place) within before is =
    ap (λ (l : List ℕ). suc byte ∷ l) (first_escaped bytes place (omega arith) (λ earlier low high. before (suc earlier) (omega arith) (omega arith)) is)

module _ (out rest whole : List ℕ) (so_far : out ++ with_escapes rest ≡ whole) where
  -- the bytes up to a byte 0 are written, and this with its escape
  pub escaped_more : (place : ℕ) → NoneBefore (IsZeroAt rest) 0 (length rest) place → IsZeroAt rest place
      → (front behind after one two : List ℕ) → front ≡ take place rest → behind ≡ drop place rest → after ≡ drop 1 behind → one ≡ out ++ front → two ≡ one ++ 0 ∷ 255 ∷ []
      → two ++ with_escapes after ≡ whole
  escaped_more place found is front behind after one two front_is behind_is after_is one_is two_is =
      let next = after_is ∙ ap (drop 1) behind_is in
      ap (λ (l : List ℕ). l ++ with_escapes after) (two_is ∙ ap (λ (l : List ℕ). l ++ 0 ∷ 255 ∷ []) one_is)
      ∙ append_assoc (out ++ front) (0 ∷ 255 ∷ []) (with_escapes after)
      ∙ append_assoc out front (0 ∷ 255 ∷ with_escapes after)
      ∙ (λ i. out ++ (front_is i ++ 0 ∷ 255 ∷ with_escapes (next i)))
      ∙ ap (λ (l : List ℕ). out ++ l) (sym (first_escaped rest place found.high found.before is))
      ∙ so_far

  -- the last of them are
  pub escaped_all : Nowhere (IsZeroAt rest) 0 (length rest) → (one : List ℕ) → one ≡ out ++ rest → one ≡ whole
  escaped_all nowhere one is = is ∙ ap (λ (l : List ℕ). out ++ l) (sym (none_escaped rest nowhere)) ∙ so_far

  -- a byte 0 has a place
  pub zero_within : (place : ℕ) → NoneBefore (IsZeroAt rest) 0 (length rest) place → (behind : List ℕ) → behind ≡ drop place rest → 1 ≤ length behind
  zero_within place found behind is = omega (arith, found.high, ap length is, length-drop place rest)
