-- Sums over the views of all seats, where one of them changes.
use Rattle.std.proofs.Common.{◌≡◌, ◌≢◌, ℕ, zero, suc, ◌+◌, ◌≤◌, List, [], ◌∷◌, ◌++◌, set, sym, refl, ap, arith}
use Rattle.std.specs.List.{sum_by}
use Rattle.std.proofs.lemmas.List.Sums.{sum_by-cons}
use mathlib.Core.Option.{some, some-injective, some-ne-none}
use lib.ListN.{get_elem?}

module _ {V : Type 0} (f : V → ℕ) where
  pub sum_set : (l : List V) (i : ℕ) (v w : V) → get_elem? l i ≡ some v → sum_by f (set l i w) + f v ≡ sum_by f l + f w
  sum_set [] i v w e = absurd (some-ne-none v (sym e))
  sum_set (x ∷ xs) zero v w e = let same : f x ≡ f v = ap f (some-injective x v e) in omega (arith, sum_by-cons f x xs, sum_by-cons f w xs)
  sum_set (x ∷ xs) (suc i) v w e = let r = sum_set xs i v w e in omega (arith, sum_by-cons f x xs, sum_by-cons f x (set xs i w))

  pub sum_more : (l : List V) (w : V) → sum_by f (l ++ w ∷ []) ≡ sum_by f l + f w
  sum_more [] w = refl
  sum_more (x ∷ xs) w = let r = sum_more xs w in omega (arith, sum_by-cons f x xs, sum_by-cons f x (xs ++ w ∷ []))

  sum_nothing : (l : List V) → ((j : ℕ) (u : V) → get_elem? l j ≡ some u → f u ≡ 0) → sum_by f l ≡ 0
  sum_nothing [] none = refl
  sum_nothing (x ∷ xs) none = let a = none zero x refl in let r = sum_nothing xs (λ j u e. none (suc j) u e) in omega (arith, sum_by-cons f x xs)

  -- where all others add nothing, the sum is what one adds
  pub sum_alone : (l : List V) (i : ℕ) (v : V) → get_elem? l i ≡ some v → ((j : ℕ) (u : V) → j ≢ i → get_elem? l j ≡ some u → f u ≡ 0) → sum_by f l ≡ f v
  sum_alone [] i v e others = absurd (some-ne-none v (sym e))
  sum_alone (x ∷ xs) zero v e others = let same : f x ≡ f v = ap f (some-injective x v e) in
      let r = sum_nothing xs (λ j u at. others (suc j) u (λ h. omega arith) at) in omega (arith, sum_by-cons f x xs)
  sum_alone (x ∷ xs) (suc i) v e others = let none : f x ≡ 0 = others zero x (λ h. omega arith) refl in
      let r = sum_alone xs i v e (λ j u ne at. others (suc j) u (λ h. ne (omega arith)) at) in omega (arith, sum_by-cons f x xs)

  pub sum_at : (l : List V) (i : ℕ) (v : V) → get_elem? l i ≡ some v → f v ≤ sum_by f l
  sum_at [] i v e = absurd (some-ne-none v (sym e))
  sum_at (x ∷ xs) zero v e = let same : f x ≡ f v = ap f (some-injective x v e) in omega (arith, sum_by-cons f x xs)
  sum_at (x ∷ xs) (suc i) v e = let r = sum_at xs i v e in omega (arith, sum_by-cons f x xs)

  -- where one adds the whole sum, another adds nothing
  pub nothing_else : (l : List V) (i : ℕ) (v : V) → get_elem? l i ≡ some v → sum_by f l ≡ f v → (j : ℕ) (u : V) → j ≢ i → get_elem? l j ≡ some u → f u ≡ 0
  nothing_else [] i v e all j u ne at = absurd (some-ne-none v (sym e))
  nothing_else (x ∷ xs) zero v e all zero u ne at = absurd (ne refl)
  nothing_else (x ∷ xs) zero v e all (suc j) u ne at = let same : f x ≡ f v = ap f (some-injective x v e) in let r = sum_at xs j u at in omega (arith, sum_by-cons f x xs)
  nothing_else (x ∷ xs) (suc i) v e all zero u ne at = let same : f x ≡ f u = ap f (some-injective x u at) in let r = sum_at xs i v e in omega (arith, sum_by-cons f x xs)
  nothing_else (x ∷ xs) (suc i) v e all (suc j) u ne at = let a = sum_at xs i v e in
      nothing_else xs i v e (omega (arith, sum_by-cons f x xs)) j u (λ h. ne (ap suc h)) at
