-- The text of a damage: its file's name, and a vclock component by component.
use Rattle.std.proofs.Common.{◌≡◌, ◌⊎◌, inl, inr, ℕ, ◌+◌, ◌<◌, ◌≤◌, List, [], ◌++◌, length, take, drop, get_or, Bool, true, false, refl, sym, ap, ◌∙◌, arith, Bor}
use Rattle.std.specs.Prelude.{Result, Ok, Err, MatchResult, codes, decimal, if◌then◌else◌}
use Rattle.std.specs.Result.{result_unwrap_or}
use Rattle.std.specs.Str.{IsUtf8, is_utf8}
use Rattle.std.proofs.lemmas.Bool.{cases_lt}
use Rattle.std.proofs.lemmas.List.{drop_all, get_or_past, get_or-take, length-take}
use Rattle.std.proofs.lemmas.Str.{IsUtf8-from_is_utf8, is_utf8-from_IsUtf8}
use Rattle.mx_vclock.specs.Vclocks.{replicas}
use Rattle.mx_vclock.specs.Text.{component_texts, join_with}
use Rattle.mx_vclock.proofs.TextLaws.{goes_on, goes_on-separated, components-skipped, goes_on-shown, goes_on-end}
use Rattle.mx_directory.specs.DamageText.{name_text, clock_text}

-- a name that isn't UTF-8 has no text
no_text : (name : List ℕ) → ¬ IsUtf8 name → name_text name ≡ []
no_text name not = by_test (is_utf8 name) refl
  where
    by_test : (test : Bool) → is_utf8 name ≡ test → (if test then name else []) ≡ []
    by_test true e = absurd (not (IsUtf8-from_is_utf8 name e))
    by_test false e = refl

-- what is read of a name as text, or else the empty text, is its text
pub name_read : {E : Type 0} (Q : E → Type 0) (name : List ℕ) (read : Result (Bor (List ℕ)) E) (empty : Bor (List ℕ))
    → MatchResult read (λ text. (text.now ≡ name) × IsUtf8 name) (λ fault. ¬ IsUtf8 name × Q fault) → empty.now ≡ []
    → (result_unwrap_or read empty).now ≡ name_text name
name_read Q name (Ok text) empty told none = told.0 ∙ sym (ap (λ test. if test then name else []) (is_utf8-from_IsUtf8 name told.1))
name_read Q name (Err fault) empty told none = none ∙ sym (no_text name told.0)

-- the lsns that a vclock's text has
abbrev lsns_of : List ℕ → List ℕ
lsns_of clock = take replicas clock

-- the text so far and the components from this id on, the first one behind `before`, are the vclock's text without its last brace
abbrev pub Begins : (text before : List ℕ) (id : ℕ) (clock : List ℕ) → Type 0
Begins text before id clock =
    text ++ goes_on before (component_texts id (drop id (lsns_of clock))) ≡ codes "{" ++ join_with (codes ", ") (component_texts 0 (lsns_of clock))

pub begins_none : (clock : List ℕ) → Begins (codes "{") [] 0 clock
begins_none clock = ap (λ rest. codes "{" ++ rest) (goes_on-separated (component_texts 0 (lsns_of clock)))

module _ (text before clock : List ℕ) (id lsn : ℕ) (within : id < replicas) (is : lsn ≡ get_or clock id 0) (begins : Begins text before id clock) where
  here : lsn ≡ get_or (lsns_of clock) id 0
  here = is ∙ sym (get_or-take replicas clock id 0 within)

  -- a component that is 0 is omitted
  pub begins_skipped : lsn ≡ 0 → Begins text before (id + 1) clock
  begins_skipped none = by_place (cases_lt id (length (lsns_of clock)))
    where
      by_place : (id < length (lsns_of clock)) ⊎ (length (lsns_of clock) ≤ id) → Begins text before (id + 1) clock
      by_place (inl below) = ap (λ rest. text ++ goes_on before rest) (sym (components-skipped (lsns_of clock) id lsn below here none)) ∙ begins
      by_place (inr past) =
          ap (λ rest. text ++ goes_on before (component_texts (id + 1) rest)) (drop_all (id + 1) (lsns_of clock) (omega (arith, past)))
          ∙ sym (ap (λ rest. text ++ goes_on before (component_texts id rest)) (drop_all id (lsns_of clock) past)) ∙ begins

  -- another one is shown
  pub begins_shown : (lsn ≡ 0 → ⊥) → Begins (text ++ (before ++ (decimal id ++ (codes ": " ++ decimal lsn)))) (codes ", ") (id + 1) clock
  begins_shown some = by_place (cases_lt id (length (lsns_of clock)))
    where
      by_place : (id < length (lsns_of clock)) ⊎ (length (lsns_of clock) ≤ id)
          → Begins (text ++ (before ++ (decimal id ++ (codes ": " ++ decimal lsn)))) (codes ", ") (id + 1) clock
      by_place (inl below) = goes_on-shown text before _ (lsns_of clock) id lsn below here some begins
      by_place (inr past) = absurd (some (here ∙ get_or_past (lsns_of clock) id 0 past))

-- no component follows the last one
pub begins_all : (text before clock : List ℕ) (id : ℕ) → replicas ≤ id → Begins text before id clock → text ++ codes "}" ≡ clock_text clock
begins_all text before clock id end begins =
    let past : length (lsns_of clock) ≤ id = omega (arith, end, length-take replicas clock) in
    ap (λ front. front ++ codes "}") (goes_on-end text before _ (lsns_of clock) id past begins)
