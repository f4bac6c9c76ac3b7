-- What each element of a list has: of two lists joined, of those that pass a test, of images, and where one property gives another.
use Rattle.std.proofs.Common.{Bool, true, false, List, [], ◌∷◌, ◌++◌, map}
use Rattle.std.specs.Prelude.{cond}
use Rattle.std.specs.List.{AllByRecursion, filter}

module _ {X : Type 0} (P : X → Type 0) where
  -- what each of two lists has, both have together
  pub each_of_both : (xs ys : List X) → AllByRecursion P xs → AllByRecursion P ys → AllByRecursion P (xs ++ ys)
  each_of_both [] ys first second = second
  each_of_both (x ∷ xs) ys first second = (first.0, each_of_both xs ys first.1 second)

  -- those that pass a test have it
  pub each_kept : (passes : X → Bool) (xs : List X) → AllByRecursion P xs → AllByRecursion P (filter passes xs)
  each_kept passes [] have = tt
  each_kept passes (x ∷ xs) have = by_test (passes x) (each_kept passes xs have.1)
    where
      by_test : (b : Bool) → AllByRecursion P (filter passes xs) → AllByRecursion P (cond b (x ∷ filter passes xs) (filter passes xs))
      by_test true rest = (have.0, rest)
      by_test false rest = rest

  -- what has this has that
  pub each_like : (Q : X → Type 0) → ((x : X) → P x → Q x) → (xs : List X) → AllByRecursion P xs → AllByRecursion Q xs
  each_like Q like [] have = tt
  each_like Q like (x ∷ xs) have = (like x have.0, each_like Q like xs have.1)

-- what each image has
pub each_of_map : {X Y : Type 0} (f : X → Y) (P : Y → Type 0) (xs : List X) → AllByRecursion (λ x. P (f x)) xs → AllByRecursion P (map f xs)
each_of_map f P [] have = tt
each_of_map f P (x ∷ xs) have = (have.0, each_of_map f P xs have.1)
