-- The least sum is one, and no other is less.
use Rattle.std.proofs.Common.{◌≡◌, ◌⊎◌, ℕ, zero, suc, ◌+◌, ◌≤◌, Bool, true, false, List, [], ◌∷◌, Option, Some, None, refl, sym, subst, inl, inr, arith}
use Rattle.std.specs.Prelude.{⊤, nat_le, nat_lt, if◌then◌else◌}
use Rattle.std.proofs.lemmas.Bool.{leb-true, ltb-true, ltb-false, le-leb}
use Rattle.mx_msgpack.proofs.Options.{allowed, same_some}
use Rattle.mx_completion.specs.declared.sums.Choice.{Choice}
use Rattle.mx_completion.specs.Sums.{sum_within, lesser, least_sum}

-- costs chosen so, and their sum
abbrev pub IsSum : List Choice → (free cost : ℕ) → Type 0
IsSum [] free cost = cost ≡ 0
IsSum (choice ∷ others) free cost =
    (first rest : ℕ) × (cost ≡ first + rest)
    × (((choice.kept ≡ Some first) × IsSum others free rest) ⊎ ((used : ℕ) × (free ≡ suc used) × (choice.anew ≡ Some first) × IsSum others used rest))

-- a cost is there, and no more than this
abbrev pub AtMost : Option ℕ → ℕ → Type 0
AtMost None cost = ⊥
AtMost (Some least) cost = least ≤ cost

-- costs chosen so are together no more than this
abbrev pub SumsWithin : List Choice → (free cost : ℕ) → Type 0
SumsWithin [] free cost = ⊤
SumsWithin (choice ∷ others) free cost =
    (first rest : ℕ) × (first + rest ≤ cost)
    × ((AtMost choice.kept first × SumsWithin others free rest) ⊎ ((used : ℕ) × (free ≡ suc used) × AtMost choice.anew first × SumsWithin others used rest))

-- ---- one is found

sum_parts : (most : ℕ) (one other : Option ℕ) (cost : ℕ) → sum_within most one other ≡ Some cost
    → (first rest : ℕ) × (one ≡ Some first) × (other ≡ Some rest) × (cost ≡ first + rest) × (cost ≤ most)
sum_parts most None other cost e = absurd cc
sum_parts most (Some first) None cost e = absurd cc
sum_parts most (Some first) (Some rest) cost e =
    let a = allowed (nat_le (first + rest) most) (Some (first + rest)) cost e in
    let same = same_some (first + rest) cost a.1 in
    (first, rest, refl, refl, sym same, subst (λ (n : ℕ). n ≤ most) same (leb-true (first + rest) most a.0))

lesser_is : (one other : Option ℕ) (cost : ℕ) → lesser one other ≡ Some cost → (one ≡ Some cost) ⊎ (other ≡ Some cost)
lesser_is None other cost e = inr e
lesser_is (Some a) None cost e = inl e
lesser_is (Some a) (Some b) cost e = by_test (nat_lt b a) e
  where
    by_test : (less : Bool) → (if less then Some b else Some a) ≡ Some cost → (Some a ≡ Some cost) ⊎ (Some b ≡ Some cost)
    by_test true e = inr e
    by_test false e = inl e

pub sum_found : (most : ℕ) (choices : List Choice) (free cost : ℕ) → least_sum most choices free ≡ Some cost → IsSum choices free cost × (cost ≤ most)
sum_found most [] free cost e = let same = same_some 0 cost e in (sym same, omega arith)
sum_found most (choice ∷ others) zero cost e =
    let (first, rest, kept, found, sum, few) = sum_parts most choice.kept (least_sum most others zero) cost e in
    ((first, rest, sum, inl (kept, (sum_found most others zero rest found).0)), few)
sum_found most (choice ∷ others) (suc free) cost e =
    elim (lesser_is (sum_within most choice.kept (least_sum most others (suc free))) (sum_within most choice.anew (least_sum most others free)) cost e) [
      | inl is ↦
          let (first, rest, kept, found, sum, few) = sum_parts most choice.kept (least_sum most others (suc free)) cost is in
          ((first, rest, sum, inl (kept, (sum_found most others (suc free) rest found).0)), few)
      | inr is ↦
          let (first, rest, anew, found, sum, few) = sum_parts most choice.anew (least_sum most others free) cost is in
          ((first, rest, sum, inr (free, refl, anew, (sum_found most others free rest found).0)), few)
    ]

-- ---- no other is less

sum_at_most : (most : ℕ) (one other : Option ℕ) (first rest cost : ℕ) → AtMost one first → AtMost other rest → first + rest ≤ cost → cost ≤ most
    → AtMost (sum_within most one other) cost
sum_at_most most None other first rest cost a b sum few = absurd a
sum_at_most most (Some x) None first rest cost a b sum few = absurd b
sum_at_most most (Some x) (Some y) first rest cost a b sum few =
    let fits : nat_le (x + y) most ≡ true = le-leb (x + y) most (omega arith) in
    rw fits (omega arith)

lesser_one : (one other : Option ℕ) (cost : ℕ) → AtMost one cost → AtMost (lesser one other) cost
lesser_one None other cost a = absurd a
lesser_one (Some x) None cost a = a
lesser_one (Some x) (Some y) cost a = by_test (nat_lt y x) refl
  where
    by_test : (less : Bool) → nat_lt y x ≡ less → AtMost (if less then Some y else Some x) cost
    by_test true t = let l = ltb-true y x t in omega arith
    by_test false t = a

lesser_other : (one other : Option ℕ) (cost : ℕ) → AtMost other cost → AtMost (lesser one other) cost
lesser_other None other cost a = a
lesser_other (Some x) None cost a = absurd a
lesser_other (Some x) (Some y) cost a = by_test (nat_lt y x) refl
  where
    by_test : (less : Bool) → nat_lt y x ≡ less → AtMost (if less then Some y else Some x) cost
    by_test true t = a
    by_test false t = let l = ltb-false y x t in omega arith

pub sum_least : (most : ℕ) (choices : List Choice) (free cost : ℕ) → SumsWithin choices free cost → cost ≤ most → AtMost (least_sum most choices free) cost
sum_least most [] free cost s few = omega arith
sum_least most (choice ∷ others) zero cost (first, rest, sum, inl (kept, s)) few =
    sum_at_most most choice.kept (least_sum most others zero) first rest cost kept (sum_least most others zero rest s (omega arith)) sum few
sum_least most (choice ∷ others) zero cost (first, rest, sum, inr (used, is, anew, s)) few = absurd (omega arith)
sum_least most (choice ∷ others) (suc free) cost (first, rest, sum, inl (kept, s)) few =
    lesser_one (sum_within most choice.kept (least_sum most others (suc free))) (sum_within most choice.anew (least_sum most others free)) cost
    (sum_at_most most choice.kept (least_sum most others (suc free)) first rest cost kept (sum_least most others (suc free) rest s (omega arith)) sum few)
sum_least most (choice ∷ others) (suc free) cost (first, rest, sum, inr (used, is, anew, s)) few =
    let same : used ≡ free = omega arith in
    lesser_other (sum_within most choice.kept (least_sum most others (suc free))) (sum_within most choice.anew (least_sum most others free)) cost
    (sum_at_most most choice.anew (least_sum most others free) first rest cost anew
    (sum_least most others free rest (subst (λ (n : ℕ). SumsWithin others n rest) same s) (omega arith)) sum few)
