-- Lists with the same places weigh the same, however places are weighed.
use Rattle.std.proofs.Common.{◌≡◌, ◌≢◌, ℕ, ◌+◌, ◌*◌, ◌<◌, eqb, Bool, cond, List, [], ◌∷◌, ◌++◌, length, sym, refl, ap, ◌∙◌, arith, eq-eqb, ne_eqb, length-append}
use Rattle.std.specs.List.{AllByRecursion, sum_by}
use Rattle.std.proofs.lemmas.List.Sums.{sum_by-append, sum_by-cons}
use mathlib.Core.Logic.{dite}
use native.Mathlib.Decide.{ℕ_discrete}
use Rattle.mx_turn.specs.Views.{AreSame, all_places, times}
use Rattle.mx_turn.proofs.HistoryLaws.{times_append}

times_first : (x : ℕ) (xs : List ℕ) → times x (x ∷ xs) ≡ 1 + times x xs
times_first x xs = sum_by-cons (λ y. cond (eqb y x) 1 0) x xs ∙ ap (λ (b : Bool). cond b 1 0 + times x xs) (eq-eqb x x refl)

times_other : (x y : ℕ) (ys : List ℕ) → y ≢ x → times x (y ∷ ys) ≡ times x ys
times_other x y ys other = let e = sum_by-cons (λ z. cond (eqb z x) 1 0) y ys in let n : cond {A = ℕ} (eqb y x) 1 0 ≡ 0 = ap (λ (b : Bool). cond {A = ℕ} b 1 0) (ne_eqb y x other) in omega arith

found : (x : ℕ) (ys : List ℕ) → 0 < times x ys → (before after : List ℕ) × (ys ≡ before ++ x ∷ after)
found x [] some_there = absurd (omega arith)
found x (y ∷ ys) some_there = dite (ℕ_discrete y x)
    (λ same. ([], ys, ap (λ (z : ℕ). z ∷ ys) same))
    (λ other. let e = times_other x y ys other in let r = found x ys (omega arith) in (y ∷ r.0, r.1, ap (λ (l : List ℕ). y ∷ l) r.2))

pub weigh_same : (f : ℕ → ℕ) (xs ys : List ℕ) → AreSame xs ys → sum_by f xs ≡ sum_by f ys
weigh_same f [] [] same = refl
weigh_same f [] (y ∷ ys) same = let s = same y in let n = times_first y ys in absurd (omega arith)
weigh_same f (x ∷ xs) ys same = let s = same x in let n = times_first x xs in let r = found x ys (omega arith) in
    let rest : AreSame xs (r.0 ++ r.1) = λ z. let a = same z in let b = ap (times z) r.2 in let c = times_append z r.0 (x ∷ r.1) in let d = times_append z r.0 r.1 in
    let e = sum_by-cons (λ y. cond (eqb y z) 1 0) x xs in let h = sum_by-cons (λ y. cond (eqb y z) 1 0) x r.1 in omega arith in
    let w = weigh_same f xs (r.0 ++ r.1) rest in
    let p = ap (sum_by f) r.2 in omega (arith, sum_by-cons f x xs, sum_by-append f r.0 (x ∷ r.1), sum_by-append f r.0 r.1, sum_by-cons f x r.1)

pub weigh_one : (xs : List ℕ) → sum_by (λ _. 1) xs ≡ length xs
weigh_one [] = refl
weigh_one (x ∷ xs) = let r = weigh_one xs in omega (arith, sum_by-cons {X = ℕ} (λ _. 1) x xs)

pub weigh_alike : (f : ℕ → ℕ) (amount : ℕ) (xs : List ℕ) → AllByRecursion (λ place. f place ≡ amount) xs → sum_by f xs ≡ amount * length xs
weigh_alike f amount [] all = omega arith
weigh_alike f amount (x ∷ xs) all = let r = weigh_alike f amount xs all.1 in let a = all.0 in grind (arith, sum_by-cons f x xs)

module _ {E : Type 0} where
  pub places_count : (log : List E) → length (all_places log) ≡ length log
  places_count [] = refl
  places_count (e ∷ log) = let r = places_count log in let n = length-append (all_places log) (length log ∷ []) in omega arith

  -- two ways of weighing that agree on all places of a history
  pub weigh_places : (f g : ℕ → ℕ) (log : List E) → ((place : ℕ) → place < length log → f place ≡ g place) → sum_by f (all_places log) ≡ sum_by g (all_places log)
  weigh_places f g [] alike = refl
  weigh_places f g (e ∷ log) alike = let r = weigh_places f g log (λ place h. alike place (omega arith)) in let a = alike (length log) (omega arith) in
      omega (arith, sum_by-append f (all_places log) (length log ∷ []), sum_by-append g (all_places log) (length log ∷ []), sum_by-cons f (length log) [], sum_by-cons g (length log) [])

  -- a history has as many entries as a list with its places has items
  pub same_count : (own : List ℕ) (log : List E) → AreSame own (all_places log) → length own ≡ length log
  same_count own log same = sym (weigh_one own) ∙ weigh_same (λ _. 1) own (all_places log) same ∙ weigh_one (all_places log) ∙ places_count log
