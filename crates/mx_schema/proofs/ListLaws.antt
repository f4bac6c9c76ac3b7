-- Lists that are read from the front.
use Rattle.std.proofs.Common.{◌≡◌, ℕ, zero, suc, ◌+◌, ◌<◌, List, [], ◌∷◌, length, drop, get_or, Some, sym, ap, ◌∙◌, add-one}
use Rattle.std.specs.List.{slice_get}
use Rattle.std.proofs.Math.Seq.{drop-cons}

module _ {X Y : Type 0} (f : List X → Y) (xs : List X) where
  -- an element that f passes over
  pub passed_over : (i : ℕ) (d : X) (whole : Y) → i < length xs → f (get_or xs i d ∷ drop (suc i) xs) ≡ f (drop (suc i) xs) → f (drop i xs) ≡ whole
      → f (drop (i + 1) xs) ≡ whole
  passed_over i d whole in_range passes before = rw add-one (sym (ap f (drop-cons xs i d in_range) ∙ passes) ∙ before)

  -- an element at which f stops
  pub stops_at : (i : ℕ) (d : X) (whole found : Y) → i < length xs → f (get_or xs i d ∷ drop (suc i) xs) ≡ found → f (drop i xs) ≡ whole → found ≡ whole
  stops_at i d whole found in_range stops before = sym stops ∙ sym (ap f (drop-cons xs i d in_range)) ∙ before

-- the element at a place, before those after it
pub at_place : {X : Type 0} (xs : List X) (i : ℕ) (x : X) → Some x ≡ slice_get xs i → drop i xs ≡ x ∷ drop (suc i) xs
at_place [] zero x e = absurd cc
at_place [] (suc i) x e = absurd cc
at_place (y ∷ xs) zero x e = let same : y ≡ x = cc in ap (λ z. z ∷ xs) same
at_place (y ∷ xs) (suc i) x e = at_place xs i x e
