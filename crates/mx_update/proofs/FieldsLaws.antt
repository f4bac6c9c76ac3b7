-- Fields as they are seen, after a change of the list that holds them.
use Rattle.std.proofs.Common.{◌≡◌, ℕ, zero, suc, ◌+◌, ◌-◌, ◌<◌, List, [], ◌∷◌, ◌++◌, length, take, drop, refl, sym, ap, ◌∙◌, append_assoc, arith}
use Rattle.std.specs.Prelude.{map, min}
use Rattle.std.proofs.lemmas.List.{take-map, drop-map, map-append}
use Rattle.mx_msgpack.specs.Items.{first_value, after_value, values_from}

drop_none : {Y : Type 0} (n : ℕ) → drop {A = Y} n [] ≡ []
drop_none zero = refl
drop_none (suc n) = refl

-- only what is there is dropped
drop_most : {Y : Type 0} (n k : ℕ) (xs : List Y) → k ≡ min n (length xs) → drop k xs ≡ drop n xs
drop_most n k [] e = drop_none k ∙ sym (drop_none n)
drop_most zero k (x ∷ xs) e = let z : k ≡ 0 = omega arith in rw z refl
drop_most (suc n) zero (x ∷ xs) e = absurd (omega arith)
drop_most (suc n) (suc k) (x ∷ xs) e = drop_most n k xs (omega arith)

module _ {X Y : Type 0} (f : X → Y) where
  pub map_insert : (xs : List X) (place : ℕ) (x : X) → map f (take place xs ++ x ∷ drop place xs) ≡ take place (map f xs) ++ f x ∷ drop place (map f xs)
  map_insert xs place x = map-append f (take place xs) (x ∷ drop place xs) ∙ (λ i. sym (take-map f place xs) i ++ f x ∷ sym (drop-map f place xs) i)

  pub map_remove : (xs : List X) (end place count : ℕ) → end ≡ min (place + count) (length xs)
      → map f (take place xs ++ drop end xs) ≡ take place (map f xs) ++ drop (place + count) (map f xs)
  map_remove xs end place count e =
      map-append f (take place xs) (drop end xs)
      ∙ (λ i. sym (take-map f place xs) i ++ map f (drop_most (place + count) end xs e i))
      ∙ ap (λ (l : List Y). take place (map f xs) ++ l) (sym (drop-map f (place + count) xs))

-- one field more of those that were sent
pub one_sent : {X Y : Type 0} (f : X → Y) (sent : List ℕ → Y) (fields : List X) (x : X) (spelling : List ℕ) (left : ℕ) (bytes : List ℕ) → 0 < left → f x ≡ sent spelling
    → spelling ≡ first_value bytes
    → map f (fields ++ x ∷ []) ++ map sent (values_from (left - 1) (after_value bytes)) ≡ map f fields ++ map sent (values_from left bytes)
one_sent f sent fields x spelling left bytes some is first =
    let e : left ≡ suc (left - 1) = omega arith in
    ap (λ l. l ++ map sent (values_from (left - 1) (after_value bytes))) (map-append f fields (x ∷ []))
    ∙ append_assoc (map f fields) (f x ∷ []) (map sent (values_from (left - 1) (after_value bytes)))
    ∙ ap (λ y. map f fields ++ y ∷ map sent (values_from (left - 1) (after_value bytes))) (is ∙ ap sent first)
    ∙ ap (λ (k : ℕ). map f fields ++ map sent (values_from k bytes)) (sym e)
