-- Two vclocks with the same text are the same.
use Rattle.std.proofs.Common.{◌≡◌, ℕ, ◌+◌, ◌<◌, ◌≤◌, ◌^◌, List, [], ◌∷◌, ◌++◌, length, refl, ap, ◌∙◌, Bool, true, false, eqb, sym, append_assoc, arith, inl, inr}
use mathlib.Core.Logic.{◌⊎◌}
use Rattle.std.specs.Prelude.{codes, decimal, All}
use Rattle.std.specs.Int.{IsInRange}
use Rattle.std.specs.Str.Parse.{AllDigits}
use Rattle.std.proofs.lemmas.Bool.{eqb-true}
use Rattle.std.proofs.lemmas.List.{append_cancel_left}
use Rattle.std.proofs.lemmas.List.Elements.{All-head, All-tail}
use Rattle.std.proofs.lemmas.Fmt.{decimal_is_IsNumeral, decimal_injective}
use Rattle.std.proofs.lemmas.Str.Parse.{tells_digits}
use Rattle.mx_vclock.specs.Vclocks.{IsVclock, max_lsn}
use Rattle.mx_vclock.specs.Text.{component_texts, vclock_text}
use Rattle.mx_vclock.proofs.TextLaws.{goes_on, goes_on-separated, components-more}

in_range : (b c : ℕ) → b ≡ c → IsInRange 48 57 c → IsInRange 48 57 b
in_range b c e r = (omega (arith, r.0), omega (arith, r.1))

-- where digits end
digits_end : (ds es : List ℕ) (b c : ℕ) (r s : List ℕ) → AllDigits 10 ds → AllDigits 10 es → (IsInRange 48 57 b → ⊥) → (IsInRange 48 57 c → ⊥) → ds ++ b ∷ r ≡ es ++ c ∷ s → (ds ≡ es) × (b ∷ r ≡ c ∷ s)
digits_end [] [] b c r s p q nb nc e = (refl, e)
digits_end [] (x ∷ es) b c r s p q nb nc e = absurd (nb (in_range b x (cc) (tells_digits.parts x es q).0))
digits_end (x ∷ ds) [] b c r s p q nb nc e = absurd (nc (in_range c x (cc) (tells_digits.parts x ds p).0))
digits_end (x ∷ ds) (y ∷ es) b c r s p q nb nc e =
    let rest = digits_end ds es b c r s (tells_digits.parts x ds p).1 (tells_digits.parts y es q).1 nb nc cc in
    (cc, rest.1)

number_ends : (m n b c : ℕ) (r s : List ℕ) → m < 2 ^ 64 → n < 2 ^ 64 → (IsInRange 48 57 b → ⊥) → (IsInRange 48 57 c → ⊥) → decimal m ++ b ∷ r ≡ decimal n ++ c ∷ s → (m ≡ n) × (b ∷ r ≡ c ∷ s)
number_ends m n b c r s hm hn nb nc e =
    let p = digits_end (decimal m) (decimal n) b c r s (decimal_is_IsNumeral m hm).0.1 (decimal_is_IsNumeral n hn).0.1 nb nc e in
    (decimal_injective m n hm hn p.0, p.1)

-- the text from this replica id on
abbrev text_from : List ℕ → ℕ → List ℕ → List ℕ
text_from before id lsns = goes_on before (component_texts id lsns) ++ codes "}"

text_from-zero : (before : List ℕ) (id lsn : ℕ) (lsns : List ℕ) → eqb lsn 0 ≡ true → text_from before id (lsn ∷ lsns) ≡ text_from before (id + 1) lsns
text_from-zero before id lsn lsns e = ap (λ parts. goes_on before parts ++ codes "}") (components-more id lsn lsns true e)

text_from-some : (before : List ℕ) (id lsn : ℕ) (lsns : List ℕ) → eqb lsn 0 ≡ false → text_from before id (lsn ∷ lsns) ≡ before ++ (decimal id ++ 58 ∷ 32 ∷ (decimal lsn ++ text_from (codes ", ") (id + 1) lsns))
text_from-some before id lsn lsns e = ap (λ parts. goes_on before parts ++ codes "}") (components-more id lsn lsns false e) ∙ simp append_assoc

-- a number is over where the text goes on
ends_number : (parts : List (List ℕ)) → (b : ℕ) × (rest : List ℕ) × (goes_on (codes ", ") parts ++ codes "}" ≡ b ∷ rest) × (IsInRange 48 57 b → ⊥)
ends_number [] = (125, [], refl, λ r. omega (arith, r.1))
ends_number (part ∷ parts) = (44, _, refl, λ r. omega (arith, r.0))

-- what stands before a component isn't the end of the text
abbrev Begins : List ℕ → Type 0
Begins before = (id : ℕ) (rest : List ℕ) → id < 2 ^ 64 → 125 ∷ [] ≡ before ++ (decimal id ++ 58 ∷ rest) → ⊥

begins-none : Begins []
begins-none id rest h e =
    let p = digits_end [] (decimal id) 125 58 [] rest _ (decimal_is_IsNumeral id h).0.1 (λ r. omega (arith, r.1)) (λ r. omega (arith, r.1)) e in
    cc

begins-comma : Begins (codes ", ")
begins-comma id rest h e = cc

-- the next component that is written has this replica id or a later one
next_id : (before : List ℕ) (id : ℕ) (lsns : List ℕ) → (text_from before id lsns ≡ 125 ∷ []) ⊎ ((next : ℕ) × (rest : List ℕ) × (id ≤ next) × (next < id + length lsns) × (text_from before id lsns ≡ before ++ (decimal next ++ 58 ∷ rest)))
next_id before id [] = inl refl
next_id before id (lsn ∷ lsns) = by_test (eqb lsn 0) refl (next_id before (id + 1) lsns)
  where
    by_test : (test : Bool) → eqb lsn 0 ≡ test → (text_from before (id + 1) lsns ≡ 125 ∷ []) ⊎ ((next : ℕ) × (rest : List ℕ) × (id + 1 ≤ next) × (next < id + 1 + length lsns) × (text_from before (id + 1) lsns ≡ before ++ (decimal next ++ 58 ∷ rest))) → (text_from before id (lsn ∷ lsns) ≡ 125 ∷ []) ⊎ ((next : ℕ) × (rest : List ℕ) × (id ≤ next) × (next < id + length (lsn ∷ lsns)) × (text_from before id (lsn ∷ lsns) ≡ before ++ (decimal next ++ 58 ∷ rest)))
    by_test false e more = inr (id, _, omega arith, omega arith, text_from-some before id lsn lsns e)
    by_test true e (inl end) = inl (text_from-zero before id lsn lsns e ∙ end)
    by_test true e (inr (next, rest, low, high, is)) = inr (next, rest, omega arith, omega arith, text_from-zero before id lsn lsns e ∙ is)

-- a text can't go on both with this replica id and with a later one
apart : (before : List ℕ) (id : ℕ) (lsns rest : List ℕ) → Begins before → id + 1 + length lsns ≤ 2 ^ 64 → before ++ (decimal id ++ 58 ∷ rest) ≡ text_from before (id + 1) lsns → ⊥
apart before id lsns rest begins high e = by_next (next_id before (id + 1) lsns)
  where
    by_next : (text_from before (id + 1) lsns ≡ 125 ∷ []) ⊎ ((next : ℕ) × (more : List ℕ) × (id + 1 ≤ next) × (next < id + 1 + length lsns) × (text_from before (id + 1) lsns ≡ before ++ (decimal next ++ 58 ∷ more))) → ⊥
    by_next (inl end) = begins id rest (omega arith) (sym (e ∙ end))
    by_next (inr (next, more, low, below, is)) =
        let p = number_ends id next 58 58 rest more (omega arith) (omega arith) (λ r. omega (arith, r.1)) (λ r. omega (arith, r.1)) (append_cancel_left before _ _ (e ∙ is)) in
        omega (arith, p.0)

-- one component more
one_more : (before : List ℕ) (id x y : ℕ) (xs ys : List ℕ) (zero other : Bool) → Begins before → x < 2 ^ 64 → y < 2 ^ 64 → id + 1 + length xs ≤ 2 ^ 64 → length xs ≡ length ys → eqb x 0 ≡ zero → eqb y 0 ≡ other → ((after : List ℕ) → Begins after → text_from after (id + 1) xs ≡ text_from after (id + 1) ys → xs ≡ ys) → text_from before id (x ∷ xs) ≡ text_from before id (y ∷ ys) → x ∷ xs ≡ y ∷ ys
one_more before id x y xs ys true true begins hx hy high same ex ey again e =
    let tail = again before begins (sym (text_from-zero before id x xs ex) ∙ e ∙ text_from-zero before id y ys ey) in
    let a = eqb-true x 0 ex in
    let b = eqb-true y 0 ey in
    cc
one_more before id x y xs ys true false begins hx hy high same ex ey again e =
    absurd (apart before id xs _ begins high (sym (text_from-some before id y ys ey) ∙ sym e ∙ text_from-zero before id x xs ex))
one_more before id x y xs ys false true begins hx hy high same ex ey again e =
    absurd (apart before id ys _ begins (omega arith) (sym (text_from-some before id x xs ex) ∙ e ∙ text_from-zero before id y ys ey))
one_more before id x y xs ys false false begins hx hy high same ex ey again e =
    let a = ends_number (component_texts (id + 1) xs) in
    let b = ends_number (component_texts (id + 1) ys) in
    let there = append_cancel_left (decimal id) _ _ (append_cancel_left before _ _ (sym (text_from-some before id x xs ex) ∙ e ∙ text_from-some before id y ys ey)) in
    let lsns = append_cancel_left (58 ∷ 32 ∷ []) (decimal x ++ text_from (codes ", ") (id + 1) xs) (decimal y ++ text_from (codes ", ") (id + 1) ys) there in
    let p = number_ends x y a.0 b.0 a.1 b.1 hx hy a.3 b.3 (ap (λ rest. decimal x ++ rest) (sym a.2) ∙ lsns ∙ ap (λ rest. decimal y ++ rest) b.2) in
    let tail = again (codes ", ") begins-comma (a.2 ∙ p.1 ∙ sym b.2) in
    let same_lsn = p.0 in
    cc

abbrev IsLsn : ℕ → Type 0
IsLsn lsn = lsn ≤ max_lsn

same_from : (before : List ℕ) (id : ℕ) (xs ys : List ℕ) → Begins before → All IsLsn xs → All IsLsn ys → id + length xs ≤ 2 ^ 64 → length xs ≡ length ys → text_from before id xs ≡ text_from before id ys → xs ≡ ys
same_from before id [] [] begins small_x small_y high same e = refl
same_from before id [] (y ∷ ys) begins small_x small_y high same e = absurd (omega arith)
same_from before id (x ∷ xs) [] begins small_x small_y high same e = absurd (omega arith)
same_from before id (x ∷ xs) (y ∷ ys) begins small_x small_y high same e =
    one_more before id x y xs ys (eqb x 0) (eqb y 0) begins (omega (arith, All-head IsLsn x xs small_x)) (omega (arith, All-head IsLsn y ys small_y)) (omega arith) (omega arith) refl refl (λ after b. same_from after (id + 1) xs ys b (All-tail IsLsn x xs small_x) (All-tail IsLsn y ys small_y) (omega arith) (omega arith)) e

-- the text tells the vclock
pub text_tells : (clock other : List ℕ) → IsVclock clock → IsVclock other → vclock_text clock ≡ vclock_text other → clock ≡ other
text_tells clock other v w e =
    let whole = v.whole in
    let shown = ap (λ text. text ++ codes "}") (goes_on-separated (component_texts 0 clock)) in
    let other_shown = ap (λ text. text ++ codes "}") (goes_on-separated (component_texts 0 other)) in
    same_from [] 0 clock other begins-none v.bounded w.bounded (omega (arith, whole)) (v.whole ∙ sym w.whole) (shown ∙ append_cancel_left (codes "{") _ _ e ∙ sym other_shown)
