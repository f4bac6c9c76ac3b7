-- Which rows spell the same values as others.
use Rattle.std.proofs.Common.{◌≡◌, ◌↔◌, ℕ, zero, suc, ◌<◌, ◌≤◌, Bool, true, false, cond, List, [], ◌∷◌, length, take, Some, None, Ok, IsTrue, ◌⊎◌, inl, inr, get_or, refl, sym, ap, ◌∙◌, arith, subst}
use Rattle.std.specs.List.{Contains}
use Rattle.std.proofs.lemmas.List.{append-nil}
use Rattle.std.specs.Cmp.Lexicographic.{bytes_decides}
use Rattle.mx_msgpack.specs.declared.bad.Bad.{Bad}
use Rattle.mx_msgpack.specs.Grammar.{Value, Spells, max_nesting}
use Rattle.mx_msgpack.specs.Reading.{first_fault, measured}
use Rattle.mx_msgpack.specs.Spelling.{shortest}
use Rattle.mx_msgpack.proofs.FrontLaws.{measured_again}
use Rattle.mx_msgpack.proofs.Measured.{measured_only}
use Rattle.mx_msgpack.proofs.PrefixLaws.{one_value}
use Rattle.mx_msgpack.proofs.Results.{ok_is}
use Rattle.mx_schema.specs.Bootstrap.{rows_of}
use Rattle.mx_schema.specs.RowParts.{is_among}
use Rattle.mx_schema.specs.SchemaChecks.{IsOneOf}
use Rattle.mx_schema.specs.TextMaps.{is_same_text}

-- ---- bytes that are one value

pub measured_whole : (value : Value) (bytes : List ℕ) → Spells max_nesting value bytes → measured bytes ≡ Ok (length bytes)
measured_whole value bytes s = ap measured (sym (append-nil bytes)) ∙ measured_again value bytes [] s

-- a fault in them, or a value that ends before them, leaves none
pub none_at_fault : (bytes : List ℕ) (bad : Bad) → first_fault bytes ≡ Some bad → (value : Value) → Spells max_nesting value bytes → ⊥
none_at_fault bytes bad fault value s =
    let whole = measured_whole value bytes s in
    let none : first_fault bytes ≡ None = rw whole refl in
    cc

pub none_beyond : (bytes : List ℕ) (size : ℕ) (first : Value) → size ≤ length bytes → Spells max_nesting first (take size bytes) → (size ≡ length bytes → ⊥)
    → (value : Value) → Spells max_nesting value bytes → ⊥
none_beyond bytes size first within spelled other value s = other (ok_is size (length bytes) (sym (measured_only bytes first size within spelled) ∙ measured_whole value bytes s))

-- ---- rows among others

abbrev pub IsHere : (wanted : List ℕ) → List (List ℕ) → Type 0
IsHere wanted [] = ⊥
IsHere wanted (row ∷ others) = (row ≡ wanted) ⊎ IsHere wanted others

here : (wanted : List ℕ) (rows : List (List ℕ)) → is_among wanted rows ≡ true → IsHere wanted rows
here wanted [] is = absurd cc
here wanted (row ∷ others) is = by_test (is_same_text row wanted) refl (here wanted others) is
  where
    by_test : (b : Bool) → is_same_text row wanted ≡ b → (is_among wanted others ≡ true → IsHere wanted others) → cond b true (is_among wanted others) ≡ true
        → IsHere wanted (row ∷ others)
    by_test true same later is = inl ((bytes_decides row wanted).0 same)
    by_test false same later is = inr (later is)

not_here : (wanted : List ℕ) (rows : List (List ℕ)) → is_among wanted rows ≡ false → IsHere wanted rows → ⊥
not_here wanted [] is found = found
not_here wanted (row ∷ others) is (inl e) = absurd (cc (is, ap (λ b. cond b true (is_among wanted others)) ((bytes_decides row wanted).1 e)))
not_here wanted (row ∷ others) is (inr later) = by_test (is_same_text row wanted) (λ none. not_here wanted others none later) is
  where
    by_test : (b : Bool) → (is_among wanted others ≡ false → ⊥) → cond b true (is_among wanted others) ≡ false → ⊥
    by_test true others_none is = absurd cc
    by_test false others_none is = others_none is

pub among : (wanted : List ℕ) (rows : List (List ℕ)) → is_among wanted rows ≡ true → Contains rows wanted
among wanted rows is = contained rows (here wanted rows is)
  where
    contained : (rows : List (List ℕ)) → IsHere wanted rows → Contains rows wanted
    contained [] found = absurd found
    contained (row ∷ others) (inl e) = (0, omega arith, e)
    contained (row ∷ others) (inr later) = let c = contained others later in (suc c.0, omega (arith, c.1), c.2)

pub not_among : (wanted : List ℕ) (rows : List (List ℕ)) → is_among wanted rows ≡ false → Contains rows wanted → ⊥
not_among wanted rows is (k, within, at) = not_here wanted rows is (found rows k within at)
  where
    found : (rows : List (List ℕ)) (k : ℕ) → k < length rows → get_or rows k wanted ≡ wanted → IsHere wanted rows
    found [] k within at = absurd (omega arith)
    found (row ∷ others) zero within at = inl at
    found (row ∷ others) (suc k) within at = inr (found others k (omega arith) at)

-- a row whose shortest spelling is among the rows, or isn't, or has none
module _ (values : List Value) (row : List ℕ) where
  pub is_one : (value : Value) → Spells max_nesting value row → (rows : List (List ℕ)) → rows ≡ rows_of values → is_among (shortest value) rows ≡ true → IsOneOf values row
  is_one value spelled rows same is = (value, spelled, subst (λ (rs : List (List ℕ)). Contains rs (shortest value)) same (among (shortest value) rows is))

  pub is_none : (value : Value) → Spells max_nesting value row → (rows : List (List ℕ)) → rows ≡ rows_of values → is_among (shortest value) rows ≡ false → IsOneOf values row → ⊥
  is_none value spelled rows same is (other, also, contains) =
      let one = one_value 64 value other row spelled also in
      not_among (shortest value) rows is
      (subst (λ (rs : List (List ℕ)). Contains rs (shortest value)) (sym same) (subst (λ (v : Value). Contains (rows_of values) (shortest v)) (sym one) contains))

  -- what was found of it tells
  pub tells : (value : Value) → Spells max_nesting value row → (rows : List (List ℕ)) → rows ≡ rows_of values → (is : Bool) → is ≡ is_among (shortest value) rows
      → IsTrue is ↔ IsOneOf values row
  tells value spelled rows same true e = ((λ t. is_one value spelled rows same (sym e)), (λ o. refl))
  tells value spelled rows same false e = ((λ t. absurd cc), (λ o. absurd (is_none value spelled rows same (sym e) o)))

  pub tells_none : ((value : Value) → Spells max_nesting value row → ⊥) → (is : Bool) → is ≡ false → IsTrue is ↔ IsOneOf values row
  tells_none none is e = ((λ t. absurd (cc (t, e))), (λ o. absurd (none o.0 o.1)))
