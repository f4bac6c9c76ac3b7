-- Places, and histories that continue another.
use Rattle.std.proofs.Common.{◌≡◌, ℕ, ◌+◌, ◌<◌, ◌≤◌, eqb, Bool, cond, List, [], ◌∷◌, ◌++◌, length, count_by, sym, refl, ap, ◌∙◌, subst, inl, inr, arith, length-append}
use Rattle.std.proofs.lemmas.List.Sums.{sum_by-append}
use Rattle.std.proofs.lemmas.Bool.{cases_lt, lt-ltb, le-ltb}
use Rattle.mx_turn.specs.Views.{Extends, longer_history, shorter_history, times}

pub times_append : (x : ℕ) (xs ys : List ℕ) → times x (xs ++ ys) ≡ times x xs + times x ys
times_append x xs ys = sum_by-append (λ y. cond (eqb y x) 1 0) xs ys

module _ {E : Type 0} where
  pub count_append : (p : E → Bool) (xs ys : List E) → count_by p (xs ++ ys) ≡ count_by p xs + count_by p ys
  count_append p xs ys = sum_by-append (λ y. cond (p y) 1 0) xs ys

  pub extends_self : (log : List E) → Extends log log
  extends_self log = ([], refl)

  pub extends_more : (log seen : List E) (e : E) → Extends log seen → Extends (e ∷ log) seen
  extends_more log seen e c = (e ∷ c.0, ap (λ (l : List E). e ∷ l) c.1)

  pub extends_length : (log seen : List E) → Extends log seen → length seen ≤ length log
  extends_length log seen c = let e = ap length c.1 in omega (arith, e, length-append c.0 seen)

  -- of two earlier histories the shorter is an earlier one of the longer
  ends : (xs ys a b : List E) → xs ++ a ≡ ys ++ b → length b ≤ length a → Extends a b
  ends [] ys a b e le = (ys, e)
  ends (x ∷ xs) [] a b e le = let n = ap length e in absurd (omega (arith, n, length-append xs a))
  ends (x ∷ xs) (y ∷ ys) a b e le = ends xs ys a b (cc) le

  pub picked : (P : List E → List E → Type 0) (a b : List E) → (length a < length b → P b a) → (length b ≤ length a → P a b) → P (longer_history a b) (shorter_history a b)
  picked P a b less more = elim (cases_lt (length a) (length b)) [
    | inl h ↦ subst (λ (t : Bool). P (cond t b a) (cond t a b)) (sym (lt-ltb (length a) (length b) h)) (less h)
    | inr h ↦ subst (λ (t : Bool). P (cond t b a) (cond t a b)) (sym (le-ltb (length a) (length b) h)) (more h)
  ]

  pub one_history : (log a b : List E) → Extends log a → Extends log b → Extends (longer_history a b) (shorter_history a b)
  one_history log a b ca cb = picked Extends a b (λ h. ends cb.0 ca.0 b a (sym cb.1 ∙ ca.1) (omega arith)) (λ h. ends ca.0 cb.0 a b (sym ca.1 ∙ cb.1) h)

  pub extends_longer : (log a b : List E) → Extends log a → Extends log b → Extends log (longer_history a b)
  extends_longer log a b ca cb = picked (λ l _. Extends log l) a b (λ _. cb) (λ _. ca)

  -- what no entry since is, stands as often in the longer
  pub longer_counts : (p : E → Bool) (log a b : List E) → Extends log a → Extends log b → count_by p log ≡ count_by p a → count_by p log ≡ count_by p (longer_history a b)
  longer_counts p log a b ca cb same = picked (λ l _. count_by p log ≡ count_by p l) a b
      (λ h. let c = ends cb.0 ca.0 b a (sym cb.1 ∙ ca.1) (omega arith) in
      omega (arith, same, ap (count_by p) c.1, count_append p c.0 a, ap (count_by p) cb.1, count_append p cb.0 b))
      (λ _. same)
