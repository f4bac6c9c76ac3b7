-- What a step does at a test, at a digit and at a blank.
use Rattle.std.proofs.Common.{◌≡◌, ℕ, ◌-◌, ◌≤◌, Bool, true, false, cond, eqb, ltb, Option, Some, None, List, ◌∷◌, refl, sym, ap, subst, arith}
use Rattle.std.proofs.lemmas.Bool.{eqb-true, eqb-false, ltb-true, ltb-false}
use Rattle.mx_vclock.specs.declared.place.Place.{Place}
use Rattle.mx_msgpack.specs.Readers.{◌>>=◌}
use Rattle.mx_vclock.specs.Places.{digit, place_if}
use Rattle.mx_vclock.proofs.Decimals.{IsDigit}
use Rattle.mx_vclock.proofs.Fitting.{lsns_at, noted, Stands, AfterBlank, Fits, Outcome}

pub by_test : {X : Type 0} (O : X → Type 0) (test : Bool) (x y : X) → (test ≡ true → O x) → (test ≡ false → O y) → O (cond test x y)
by_test O true x y f g = f refl
by_test O false x y f g = g refl

pub by_digit : {X : Type 0} (O : Option X → Type 0) (byte : ℕ) (f : ℕ → Option X) → (IsDigit byte → O (f (byte - 48))) → ((IsDigit byte → ⊥) → O None) → O (digit byte >>= f)
by_digit {X} O byte f found missing = low (ltb byte 48) refl
  where
    high : 48 ≤ byte → (test : Bool) → ltb 57 byte ≡ test → O (cond test None (Some (byte - 48)) >>= f)
    high l true e = missing (λ d. let h = ltb-true 57 byte e in omega (arith, d.1))
    high l false e = found (l, ltb-false 57 byte e)

    low : (test : Bool) → ltb byte 48 ≡ test → O (cond test None (cond (ltb 57 byte) None (Some (byte - 48))) >>= f)
    low true e = missing (λ d. let h = ltb-true byte 48 e in omega (arith, d.0))
    low false e = high (ltb-false byte 48 e) (ltb 57 byte) refl

-- which texts go on from somewhere
abbrev pub Texts : Type 1
Texts = List ℕ → List ℕ → Type 0

-- the texts of a place that go on with a byte
abbrev pub Taking : Place → List ℕ → ℕ → Texts
Taking place front byte clock text = Fits place front clock (byte ∷ text)

pub one_more : (x y : ℕ) (xs ys : List ℕ) → x ∷ xs ≡ y ∷ ys → (x ≡ y) × (xs ≡ ys)
one_more x y xs ys e = (cc, cc)

pub blank_law : (place : Place) (F : List ℕ → List ℕ → Type 0) (G : Texts) (lsns front : List ℕ) (byte : ℕ)
    → ((clock text : List ℕ) → G clock text → AfterBlank (F clock) (byte ∷ text)) → ((clock text : List ℕ) → AfterBlank (F clock) (byte ∷ text) → G clock text)
    → lsns_at place front ≡ noted place lsns → Stands place front
    → ((clock text : List ℕ) → F clock text → Fits place front clock text) → ((clock text : List ℕ) → Fits place front clock text → F clock text)
    → Outcome G lsns (place_if 32 byte place)
blank_law place F G lsns front byte to from same stands there back = by_test (Outcome G lsns) (eqb byte 32) (Some place) None
    (λ t. (
      front,
      same,
      stands,
      λ clock text g. let b = to clock text g in let o = one_more 32 byte b.0 text b.1 in there clock text (subst (F clock) o.1 b.2),
      λ clock text f. from clock text (text, ap (λ n. n ∷ text) (sym (eqb-true byte 32 t)), back clock text f),
    ))
    (λ t clock text g. let b = to clock text g in let o = one_more 32 byte b.0 text b.1 in eqb-false byte 32 t (sym o.0))
