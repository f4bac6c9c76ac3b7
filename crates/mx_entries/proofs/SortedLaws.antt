-- Lists of entries in the order of their keys: one entry more, another value, one less.
use Rattle.std.proofs.Common.{◌≡◌, ◌&&◌, ℕ, Bool, true, false, cond, not, T, List, [], ◌∷◌, Option, Some, None, refl, sym, ap, ◌∙◌, subst}
use Rattle.std.specs.declared.cmp.Ordering.{Ordering}
use Rattle.std.specs.declared.cmp.Ordering.TheVariants.{Less, Equal, Greater}
use Rattle.std.specs.BTreeMap.{insert_entry, is_at}
use Rattle.std.specs.Cmp.{IsTotalOrder}
use Rattle.std.specs.Cmp.Lexicographic.{slice_cmp}
use Rattle.std.specs.FinMap.{FinMap, IsAntisymmetric, entries, entries_sorted, get, get-entries, get-remove, nat_cmp-IsAntisymmetric, remove, slice_cmp-IsAntisymmetric}
use Rattle.std.specs.FinMap.Entries.{below_all, by_order, find, find-where_key, is_sorted, is_sorted-where_key, put, same_entries, where_key}
use Rattle.std.specs.List.{AllByRecursion}
use Rattle.std.specs.List.Sorted.{IsStrictlySortedBy}
use Rattle.std.specs.Map.{keys_of, lookup, lookup_entry, remove_entry, set_value}
use Rattle.std.specs.Option.{option_map}
use Rattle.std.specs.Ordering.{eq_by_cmp, is_eq, is_lt, match_ordering, nat_cmp, ordering_reverse}
use Rattle.std.proofs.lemmas.Cmp.{nat_list_cmp_total}
use Rattle.mx_schema.proofs.OrderLaws.{both, lt_is}

both_hold : (a b : Bool) → T a → T b → T (a && b)
both_hold true b p q = q
both_hold false b p q = absurd p

-- ---- a map without a key

eq_reverse : (o : Ordering) → is_eq (ordering_reverse o) ≡ is_eq o
eq_reverse Less = refl
eq_reverse Equal = refl
eq_reverse Greater = refl

flipped : {X : Type 0} (b : Bool) (x : Option X) → cond b None x ≡ cond (not b) x None
flipped true x = refl
flipped false x = refl

module _ {K X : Type 0} {R : K → K → Ordering} (total : IsTotalOrder R) (antisymmetric : IsAntisymmetric R) (all : FinMap R X) (key : K) where
  abbrev differs : K → Bool
  differs other = not (eq_by_cmp R key other)

  by_tie : (q : K) → cond (eq_by_cmp R q key) None (get all q) ≡ cond (differs q) (find R q (entries all)) None
  by_tie q =
      ap (λ (b : Bool). cond b None (get all q)) (ap is_eq (total.antisymm q key) ∙ eq_reverse (R key q))
      ∙ flipped (eq_by_cmp R key q) (get all q)
      ∙ ap (λ (o : Option X). cond (differs q) o None) (get-entries all q)

  pub entries_without : entries (remove all key) ≡ where_key R differs (entries all)
  entries_without =
      same_entries R total antisymmetric (entries (remove all key)) (where_key R differs (entries all)) (entries_sorted (remove all key)) (is_sorted-where_key R differs (entries all) (entries_sorted all))
      (λ q. sym (get-entries (remove all key) q) ∙ get-remove total all key q ∙ by_tie q
      ∙ sym (find-where_key R differs q (λ x e. ap differs (sym (antisymmetric q x e))) (entries all)))

-- ---- ascending keys

module _ {K X : Type 0} (R : K → K → Ordering) where
  below_each : (low : K) (all : List (K × X)) → AllByRecursion (λ k. R low k ≡ Less) (keys_of all) → T (below_all R low all)
  below_each low [] each = tt
  below_each low (entry ∷ all) each = rw each.0 (below_each low all each.1)

  -- entries whose keys ascend are sorted
  pub ascending : (all : List (K × X)) → IsStrictlySortedBy R (keys_of all) → T (is_sorted R all)
  unfolding IsStrictlySortedBy
  ascending [] sorted = tt
  ascending (entry ∷ all) sorted = both_hold _ _ (below_each entry.0 all sorted.0) (ascending all sorted.1)

-- ---- keys that are bytes

module _ (key : List ℕ) where
  abbrev at : List ℕ → Bool
  at = is_at (slice_cmp nat_cmp key)

  abbrev apart : List ℕ → Bool
  apart other = not (eq_by_cmp (slice_cmp nat_cmp) key other)

  module _ {X : Type 0} where
    pub find_is : (all : List (List ℕ × X)) → find (slice_cmp nat_cmp) key all ≡ lookup at all
    find_is [] = refl
    find_is (entry ∷ all) = ap (λ o. cond (at entry.0) (Some entry.1) o) (find_is all)

    -- an entry that is found has the key
    pub entry_of : (all : List (List ℕ × X)) → lookup_entry at all ≡ option_map (λ value. (key, value)) (lookup at all)
    entry_of [] = refl
    entry_of (entry ∷ all) = by_order_of (slice_cmp nat_cmp key entry.0) refl (entry_of all)
      where
        by_order_of : (o : Ordering) → slice_cmp nat_cmp key entry.0 ≡ o → lookup_entry at all ≡ option_map (λ value. (key, value)) (lookup at all)
            → cond (is_eq o) (Some entry) (lookup_entry at all) ≡ option_map (λ value. (key, value)) (cond (is_eq o) (Some entry.1) (lookup at all))
        by_order_of Less is others = others
        by_order_of Equal is others = λ i. Some (sym (slice_cmp-IsAntisymmetric nat_cmp-IsAntisymmetric key entry.0 is) i, entry.1)
        by_order_of Greater is others = others

    pub put_is : (value : X) (all : List (List ℕ × X)) → put (slice_cmp nat_cmp) key value all ≡ insert_entry (slice_cmp nat_cmp) all key value
    put_is value [] = refl
    put_is value (entry ∷ all) = by_order_of (slice_cmp nat_cmp key entry.0) (put_is value all)
      where
        by_order_of : (o : Ordering) → put (slice_cmp nat_cmp) key value all ≡ insert_entry (slice_cmp nat_cmp) all key value
            → by_order o ((key, value) ∷ entry ∷ all) ((entry.0, value) ∷ all) (entry ∷ put (slice_cmp nat_cmp) key value all)
            ≡ match_ordering o ((key, value) ∷ entry ∷ all) ((entry.0, value) ∷ all) (entry ∷ insert_entry (slice_cmp nat_cmp) all key value)
        by_order_of Less others = refl
        by_order_of Equal others = refl
        by_order_of Greater others = ap (λ (l : List (List ℕ × X)). entry ∷ l) others

    -- a key below the first one isn't there
    none_below : (low : List ℕ) (all : List (List ℕ × X)) → slice_cmp nat_cmp key low ≡ Less → T (below_all (slice_cmp nat_cmp) low all) → lookup at all ≡ None
    none_below low [] less below = refl
    none_below low (entry ∷ all) less below =
        let rises = both (is_lt (slice_cmp nat_cmp low entry.0)) (below_all (slice_cmp nat_cmp) low all) below in
        let under = nat_list_cmp_total.trans key low entry.0 less (lt_is (slice_cmp nat_cmp low entry.0) rises.0) in
        ap (λ o. cond (is_eq o) (Some entry.1) (lookup at all)) under ∙ none_below low all less rises.1

    -- where the key is there, it is set
    pub set_is : (old value : X) (all : List (List ℕ × X)) → T (is_sorted (slice_cmp nat_cmp) all) → lookup at all ≡ Some old → insert_entry (slice_cmp nat_cmp) all key value ≡ set_value at all value
    set_is old value [] sorted there = absurd cc
    set_is old value (entry ∷ all) sorted there =
        let rises = both (below_all (slice_cmp nat_cmp) entry.0 all) (is_sorted (slice_cmp nat_cmp) all) sorted in
        by_order_of (slice_cmp nat_cmp key entry.0) refl there (set_is old value all rises.1) (subst T (sym rises.0) tt)
      where
        by_order_of : (o : Ordering) → slice_cmp nat_cmp key entry.0 ≡ o → cond (is_eq o) (Some entry.1) (lookup at all) ≡ Some old
            → (lookup at all ≡ Some old → insert_entry (slice_cmp nat_cmp) all key value ≡ set_value at all value) → T (below_all (slice_cmp nat_cmp) entry.0 all)
            → match_ordering o ((key, value) ∷ entry ∷ all) ((entry.0, value) ∷ all) (entry ∷ insert_entry (slice_cmp nat_cmp) all key value)
            ≡ cond (is_eq o) ((entry.0, value) ∷ all) (entry ∷ set_value at all value)
        by_order_of Less is there later below = let none = none_below entry.0 all is below in absurd cc
        by_order_of Equal is there later below = refl
        by_order_of Greater is there later below = ap (λ (l : List (List ℕ × X)). entry ∷ l) (later there)

    -- ---- without an entry

    -- no key is equal above one that is
    kept_above : (entry : List ℕ × X) (all : List (List ℕ × X)) → slice_cmp nat_cmp key entry.0 ≡ Equal → T (below_all (slice_cmp nat_cmp) entry.0 all) → where_key (slice_cmp nat_cmp) apart all ≡ all
    kept_above entry [] tied below = refl
    kept_above entry (next ∷ all) tied below =
        let above = both (is_lt (slice_cmp nat_cmp entry.0 next.0)) (below_all (slice_cmp nat_cmp) entry.0 all) below in
        let less = nat_list_cmp_total.congr key entry.0 next.0 tied ∙ lt_is (slice_cmp nat_cmp entry.0 next.0) above.0 in
        ap (λ (o : Ordering). cond (not (is_eq o)) (next ∷ where_key (slice_cmp nat_cmp) apart all) (where_key (slice_cmp nat_cmp) apart all)) less
        ∙ ap (λ (l : List (List ℕ × X)). next ∷ l) (kept_above entry all tied above.1)

    pub without_is : (all : List (List ℕ × X)) → T (is_sorted (slice_cmp nat_cmp) all) → where_key (slice_cmp nat_cmp) apart all ≡ remove_entry at all
    without_is [] sorted = refl
    without_is (entry ∷ all) sorted =
        let rises = both (below_all (slice_cmp nat_cmp) entry.0 all) (is_sorted (slice_cmp nat_cmp) all) sorted in
        by_order_of (slice_cmp nat_cmp key entry.0) refl (without_is all rises.1) (subst T (sym rises.0) tt)
      where
        by_order_of : (o : Ordering) → slice_cmp nat_cmp key entry.0 ≡ o → where_key (slice_cmp nat_cmp) apart all ≡ remove_entry at all → T (below_all (slice_cmp nat_cmp) entry.0 all)
            → cond (not (is_eq o)) (entry ∷ where_key (slice_cmp nat_cmp) apart all) (where_key (slice_cmp nat_cmp) apart all) ≡ cond (is_eq o) all (entry ∷ remove_entry at all)
        by_order_of Less is others below = ap (λ (l : List (List ℕ × X)). entry ∷ l) others
        by_order_of Equal is others below = kept_above entry all is below
        by_order_of Greater is others below = ap (λ (l : List (List ℕ × X)). entry ∷ l) others
