-- Entries that are found in a list in the order of their keys: each under its key, and the first that passes a test.
use Rattle.std.proofs.Common.{◌≡◌, Bool, true, false, cond, T, List, [], ◌∷◌, ◌++◌, Some, refl, sym, ap, ◌∙◌, subst, true≢false}
use Rattle.std.specs.declared.cmp.Ordering.{Ordering}
use Rattle.std.specs.declared.cmp.Ordering.TheVariants.{Less, Equal, Greater}
use Rattle.std.specs.Cmp.{IsTotalOrder, tied_itself}
use Rattle.std.specs.Cmp.Lexicographic.{slice_cmp}
use Rattle.std.specs.FinMap.{FinMap, IsAntisymmetric, entries, entries_sorted, get, get-entries}
use Rattle.std.specs.FinMap.Entries.{below_all, find, is_sorted}
use Rattle.std.specs.List as list
use Rattle.std.specs.List.{AllByRecursion}
use Rattle.std.specs.Ordering.{eq_by_cmp, is_eq, is_gt, is_lt, ordering_reverse, ordering_then}
use Rattle.mx_schema.proofs.OrderLaws.{both, lt_is}

equal_is : (o : Ordering) → is_eq o ≡ true → o ≡ Equal
equal_is Less e = absurd (true≢false (sym e))
equal_is Equal e = refl
equal_is Greater e = absurd (true≢false (sym e))

module _ {K : Type 0} (R : K → K → Ordering) (total : IsTotalOrder R) (antisymmetric : IsAntisymmetric R) where
  tied_is : (one other : K) → eq_by_cmp R one other ≡ true → one ≡ other
  tied_is one other tied = antisymmetric one other (equal_is (R one other) tied)

  module _ {X : Type 0} where
    -- what is found above a key is greater
    pub above : (key : K) (value : X) (first : K) (all : List (K × X)) → find R key all ≡ Some value → T (below_all R first all) → R first key ≡ Less
    above key value first [] found below = absurd cc
    above key value first (entry ∷ all) found below =
        let parts = both (is_lt (R first entry.0)) (below_all R first all) below in
        by_test (eq_by_cmp R key entry.0) refl found parts.0 (λ later. above key value first all later parts.1)
      where
        by_test : (b : Bool) → eq_by_cmp R key entry.0 ≡ b → cond b (Some entry.1) (find R key all) ≡ Some value → is_lt (R first entry.0) ≡ true
            → (find R key all ≡ Some value → R first key ≡ Less) → R first key ≡ Less
        by_test true tied here less later = ap (R first) (tied_is key entry.0 tied) ∙ lt_is (R first entry.0) less
        by_test false apart there less later = later there

    pub not_first : (entry : K × X) (key : K) → R entry.0 key ≡ Less → eq_by_cmp R key entry.0 ≡ false
    not_first entry key less = ap is_eq (total.antisymm key entry.0 ∙ ap ordering_reverse less)

    pub each_found_in : (all : List (K × X)) → T (is_sorted R all) → AllByRecursion (λ (entry : K × X). find R entry.0 all ≡ Some entry.1) all
    each_found_in [] sorted = tt
    each_found_in (entry ∷ all) sorted =
        let rises = both (below_all R entry.0 all) (is_sorted R all) sorted in
        (ap (λ b. cond b (Some entry.1) (find R entry.0 all)) (ap is_eq (tied_itself total entry.0)), later (subst T (sym rises.0) tt) all (each_found_in all rises.1))
      where
        later : T (below_all R entry.0 all) → (some : List (K × X)) → AllByRecursion (λ (one : K × X). find R one.0 all ≡ Some one.1) some
            → AllByRecursion (λ (one : K × X). find R one.0 (entry ∷ all) ≡ Some one.1) some
        later below [] found = tt
        later below (one ∷ some) found =
            (ap (λ b. cond b (Some entry.1) (find R one.0 all)) (not_first entry one.0 (above one.0 one.1 entry.0 all found.0 below)) ∙ found.0, later below some found.1)

    -- each entry of a map is found in it
    pub each_is_found : (all : FinMap R X) → AllByRecursion (λ (entry : K × X). get all entry.0 ≡ Some entry.1) (entries all)
    each_is_found all = through (entries all) (each_found_in (entries all) (entries_sorted all))
      where
        through : (some : List (K × X)) → AllByRecursion (λ (one : K × X). find R one.0 (entries all) ≡ Some one.1) some
            → AllByRecursion (λ (one : K × X). get all one.0 ≡ Some one.1) some
        through [] found = tt
        through (one ∷ some) found = (get-entries all one.0 ∙ found.0, through some found.1)

    -- what each entry has, that one has which passes a test
    pub passing_has : (P : K × X → Type 0) (test : K × X → Bool) (all : List (K × X)) (entry : K × X) → AllByRecursion P all → list.find test all ≡ Some entry
        → P entry × (test entry ≡ true)
    passing_has P test [] entry have found = absurd cc
    passing_has P test (one ∷ all) entry have found = by_test (test one) refl found (λ there. passing_has P test all entry have.1 there)
      where
        by_test : (b : Bool) → test one ≡ b → cond b (Some one) (list.find test all) ≡ Some entry
            → (list.find test all ≡ Some entry → P entry × (test entry ≡ true)) → P entry × (test entry ≡ true)
        by_test true passes here later = let same : one ≡ entry = cc in (subst P same have.0, ap test (sym same) ∙ passes)
        by_test false fails there later = later there

    -- the first key that passes a test isn't greater than another one that does
    pub first_passing : (test : K → Bool) (key : K) (value : X) (all : List (K × X)) → T (is_sorted R all) → find R key all ≡ Some value → test key ≡ true
        → (entry : K × X) × (list.find (λ (one : K × X). test one.0) all ≡ Some entry) × (is_gt (R entry.0 key) ≡ false)
    first_passing test key value [] sorted found passes = absurd cc
    first_passing test key value (one ∷ all) sorted found passes =
        let rises = both (below_all R one.0 all) (is_sorted R all) sorted in
        by_test (test one.0) refl (eq_by_cmp R key one.0) refl found (subst T (sym rises.0) tt) (λ there. first_passing test key value all rises.1 there passes)
      where
        by_test : (b : Bool) → test one.0 ≡ b → (c : Bool) → eq_by_cmp R key one.0 ≡ c → cond c (Some one.1) (find R key all) ≡ Some value
            → T (below_all R one.0 all)
            → (find R key all ≡ Some value
            → (entry : K × X) × (list.find (λ (other : K × X). test other.0) all ≡ Some entry) × (is_gt (R entry.0 key) ≡ false))
            → (entry : K × X) × (cond b (Some one) (list.find (λ (other : K × X). test other.0) all) ≡ Some entry) × (is_gt (R entry.0 key) ≡ false)
        by_test true here true tied there below later =
            (one, refl, ap (λ k. is_gt (R one.0 k)) (tied_is key one.0 tied) ∙ ap is_gt (tied_itself total one.0))
        by_test true here false apart there below later = (one, refl, ap is_gt (above key value one.0 all there below))
        by_test false fails true tied there below later = absurd (true≢false (sym passes ∙ ap test (tied_is key one.0 tied) ∙ fails))
        by_test false fails false apart there below later = later there

-- ---- lists that begin with another one

module _ {A : Type 0} (R : A → A → Ordering) (total : IsTotalOrder R) (antisymmetric : IsAntisymmetric R) where
  -- between a list and one that begins with it are only lists that begin with it
  pub begins : (wanted key others : List A) → is_lt (slice_cmp R key wanted) ≡ false → is_gt (slice_cmp R key (wanted ++ others)) ≡ false → (rest : List A) × (key ≡ wanted ++ rest)
  begins [] key others from to = (key, refl)
  begins (part ∷ wanted) [] others from to = absurd (true≢false from)
  begins (part ∷ wanted) (one ∷ key) others from to = by_part (R one part) refl from to (λ f t. begins wanted key others f t)
    where
      by_part : (o : Ordering) → R one part ≡ o → is_lt (ordering_then o (slice_cmp R key wanted)) ≡ false → is_gt (ordering_then o (slice_cmp R key (wanted ++ others))) ≡ false
          → (is_lt (slice_cmp R key wanted) ≡ false → is_gt (slice_cmp R key (wanted ++ others)) ≡ false → (rest : List A) × (key ≡ wanted ++ rest))
          → (rest : List A) × (one ∷ key ≡ part ∷ wanted ++ rest)
      by_part Less is from to later = absurd (true≢false from)
      by_part Equal is from to later = let found = later from to in (found.0, λ i. antisymmetric one part is i ∷ found.1 i)
      by_part Greater is from to later = absurd (true≢false to)

  -- a list isn't below one that it begins with
  pub not_below : (wanted others : List A) → is_lt (slice_cmp R (wanted ++ others) wanted) ≡ false
  not_below [] [] = refl
  not_below [] (part ∷ others) = refl
  not_below (part ∷ wanted) others = ap (λ o. is_lt (ordering_then o (slice_cmp R (wanted ++ others) wanted))) (tied_itself total part) ∙ not_below wanted others
