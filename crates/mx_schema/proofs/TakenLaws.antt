-- The tuple that is kept under a key, and what is kept without it.
use Rattle.std.proofs.Common.{◌≡◌, ℕ, Bool, true, false, cond, not, T, List, [], ◌∷◌, map, Option, Some, None, refl, sym, ap, ◌∙◌, subst, nat_cmp}
use Rattle.std.specs.declared.cmp.Ordering.{Ordering}
use Rattle.std.specs.declared.cmp.Ordering.TheVariants.{Less, Equal, Greater}
use Rattle.std.specs.BTreeMap.{is_at}
use Rattle.std.specs.Cmp.Lexicographic.{slice_cmp}
use Rattle.std.specs.FinMap as finite
use Rattle.std.specs.FinMap.Entries.{below_all, find, find-where_key, is_sorted, is_sorted-where_key, same_entries, where_key}
use Rattle.std.specs.List.{AllByRecursion}
use Rattle.std.specs.Map.{lookup, remove_entry}
use Rattle.std.specs.Ordering.{eq_by_cmp, is_eq, is_lt, ordering_reverse}
use Rattle.mx_key.specs.Keys.{Key, AreFit, key_cmp}
use Rattle.mx_key.specs.Comparable.{comparable_of}
use Rattle.mx_key.proofs.EncodingLaws.{bytes_order}
use Rattle.mx_key.proofs.KeyLaws.{key_cmp-IsAntisymmetric, key_cmp_total}
use Rattle.mx_schema.specs.Picks.{Indexed}
use Rattle.mx_schema.specs.State.{Tuples}
use Rattle.mx_schema.specs.Stored.{StoredTuple, StoresTuples, stored_tuple}
use Rattle.mx_schema.proofs.StoredLaws.{no_entries}
use Rattle.mx_schema.proofs.OrderLaws.{both, lt_is}

-- what is kept under a key's bytes is the tuple of the key
pub stored_get : (kept : List StoredTuple) (tuples : Tuples) (key : Key) (bytes : List ℕ) → StoresTuples kept tuples → AreFit key → bytes ≡ comparable_of key
    → lookup (is_at (slice_cmp nat_cmp bytes)) kept ≡ finite.get tuples key
stored_get kept tuples key bytes keeps fit is =
    ap (λ (k : List ℕ). lookup (is_at (slice_cmp nat_cmp k)) kept) is
    ∙ ap (lookup (is_at (slice_cmp nat_cmp (comparable_of key)))) (sym keeps.same)
    ∙ found (finite.entries tuples) keeps.fit ∙ sym (finite.get-entries tuples key)
  where
    found : (all : List Indexed) → AllByRecursion (λ (entry : Indexed). AreFit entry.0) all
        → lookup (is_at (slice_cmp nat_cmp (comparable_of key))) (map stored_tuple all) ≡ find key_cmp key all
    found [] fits = refl
    found (entry ∷ all) fits = λ i. cond (is_eq (bytes_order key entry.0 fit fits.0 i)) (Some entry.1) (found all fits.1 i)

-- ---- without a key

eq_reverse : (o : Ordering) → is_eq (ordering_reverse o) ≡ is_eq o
eq_reverse Less = refl
eq_reverse Equal = refl
eq_reverse Greater = refl

flipped : {X : Type 0} (b : Bool) (x : Option X) → cond b None x ≡ cond (not b) x None
flipped true x = refl
flipped false x = refl

module _ (key : Key) where
  abbrev pub apart : Key → Bool
  apart other = not (eq_by_cmp key_cmp key other)

  -- what is left has the other keys
  pub entries_removed : (tuples : Tuples) → finite.entries (finite.remove tuples key) ≡ where_key key_cmp apart (finite.entries tuples)
  entries_removed tuples =
      same_entries key_cmp key_cmp_total key_cmp-IsAntisymmetric (finite.entries (finite.remove tuples key)) (where_key key_cmp apart (finite.entries tuples))
      (finite.entries_sorted (finite.remove tuples key)) (is_sorted-where_key key_cmp apart (finite.entries tuples) (finite.entries_sorted tuples))
      (λ q. sym (finite.get-entries (finite.remove tuples key) q) ∙ finite.get-remove key_cmp_total tuples key q ∙ by_tie q
      ∙ sym (find-where_key key_cmp apart q (λ x e. ap apart (sym (key_cmp-IsAntisymmetric q x e))) (finite.entries tuples)))
    where
      by_tie : (q : Key) → cond (eq_by_cmp key_cmp q key) None (finite.get tuples q) ≡ cond (not (eq_by_cmp key_cmp key q)) (find key_cmp q (finite.entries tuples)) None
      by_tie q =
          ap (λ (b : Bool). cond b None (finite.get tuples q)) (ap is_eq (key_cmp_total.antisymm q key) ∙ eq_reverse (key_cmp key q))
          ∙ flipped (eq_by_cmp key_cmp key q) (finite.get tuples q)
          ∙ ap (λ (o : Option (List ℕ)). cond (not (eq_by_cmp key_cmp key q)) o None) (finite.get-entries tuples q)

  -- no key ties above one that does
  kept_above : (entry : Indexed) (all : List Indexed) → key_cmp key entry.0 ≡ Equal → T (below_all key_cmp entry.0 all) → where_key key_cmp apart all ≡ all
  kept_above entry [] tied below = refl
  kept_above entry (next ∷ all) tied below =
      let above = both (is_lt (key_cmp entry.0 next.0)) (below_all key_cmp entry.0 all) below in
      let less = key_cmp_total.congr key entry.0 next.0 tied ∙ lt_is (key_cmp entry.0 next.0) above.0 in
      ap (λ (o : Ordering). cond (not (is_eq o)) (next ∷ where_key key_cmp apart all) (where_key key_cmp apart all)) less
      ∙ ap (λ (l : List Indexed). next ∷ l) (kept_above entry all tied above.1)

  kept_without : AreFit key → (all : List Indexed) → AllByRecursion (λ (entry : Indexed). AreFit entry.0) all → T (is_sorted key_cmp all)
      → map stored_tuple (where_key key_cmp apart all) ≡ remove_entry (is_at (slice_cmp nat_cmp (comparable_of key))) (map stored_tuple all)
  kept_without fit [] fits sorted = refl
  kept_without fit (entry ∷ all) fits sorted =
      let rises = both (below_all key_cmp entry.0 all) (is_sorted key_cmp all) sorted in
      by_order_of (key_cmp key entry.0) refl (kept_without fit all fits.1 rises.1) (subst T (sym rises.0) tt)
      ∙ ap (λ (o : Ordering). cond (is_eq o) (map stored_tuple all) (stored_tuple entry ∷ remove_entry (is_at (slice_cmp nat_cmp (comparable_of key))) (map stored_tuple all)))
      (sym (bytes_order key entry.0 fit fits.0))
    where
      without : List StoredTuple
      without = remove_entry (is_at (slice_cmp nat_cmp (comparable_of key))) (map stored_tuple all)

      by_order_of : (o : Ordering) → key_cmp key entry.0 ≡ o
          → map stored_tuple (where_key key_cmp apart all) ≡ remove_entry (is_at (slice_cmp nat_cmp (comparable_of key))) (map stored_tuple all)
          → T (below_all key_cmp entry.0 all)
          → map stored_tuple (cond (not (is_eq o)) (entry ∷ where_key key_cmp apart all) (where_key key_cmp apart all))
          ≡ cond (is_eq o) (map stored_tuple all) (stored_tuple entry ∷ remove_entry (is_at (slice_cmp nat_cmp (comparable_of key))) (map stored_tuple all))
      by_order_of Less e others below = ap (λ (l : List StoredTuple). stored_tuple entry ∷ l) others
      by_order_of Equal e others below = ap (map stored_tuple) (kept_above entry all e below)
      by_order_of Greater e others below = ap (λ (l : List StoredTuple). stored_tuple entry ∷ l) others

  left_have : (P : Indexed → Type 0) (all : List Indexed) → AllByRecursion P all → AllByRecursion P (where_key key_cmp apart all)
  left_have P [] have = tt
  left_have P (entry ∷ all) have = by_test (apart entry.0) (left_have P all have.1)
    where
      by_test : (b : Bool) → AllByRecursion P (where_key key_cmp apart all) → AllByRecursion P (cond b (entry ∷ where_key key_cmp apart all) (where_key key_cmp apart all))
      by_test true others = (have.0, others)
      by_test false others = others

  -- a property that each entry has
  pub each_left : (P : Indexed → Type 0) (tuples : Tuples) → AllByRecursion P (finite.entries tuples) → AllByRecursion P (finite.entries (finite.remove tuples key))
  each_left P tuples have = subst (AllByRecursion P) (sym (entries_removed tuples)) (left_have P (finite.entries tuples) have)

  -- of no tuples none is left
  pub none_left : (tuples : Tuples) → tuples ≡ finite.empty → finite.remove tuples key ≡ finite.empty
  none_left tuples none =
      ap (λ (t : Tuples). finite.remove t key) none
      ∙ finite.same_entries_map (finite.remove finite.empty key) finite.empty (entries_removed finite.empty ∙ ap (where_key key_cmp apart) no_entries ∙ sym no_entries)

  -- the others are kept
  pub stores_left : (kept after : List StoredTuple) (tuples : Tuples) (bytes : List ℕ) → AreFit key → bytes ≡ comparable_of key
      → after ≡ remove_entry (is_at (slice_cmp nat_cmp bytes)) kept → StoresTuples kept tuples → StoresTuples after (finite.remove tuples key)
  stores_left kept after tuples bytes fit is taken keeps = record {
    same = ap (map stored_tuple) (entries_removed tuples) ∙ kept_without fit (finite.entries tuples) keeps.fit (finite.entries_sorted tuples)
        ∙ ap (remove_entry (is_at (slice_cmp nat_cmp (comparable_of key)))) keeps.same
        ∙ ap (λ (k : List ℕ). remove_entry (is_at (slice_cmp nat_cmp k)) kept) (sym is) ∙ sym taken;
    fit = each_left (λ entry. AreFit entry.0) tuples keeps.fit;
  }

  -- a property that each entry has, the tuple has that is found under the key
  pub each_found : (P : Indexed → Type 0) (tuples : Tuples) (tuple : List ℕ) → finite.get tuples key ≡ Some tuple → AllByRecursion P (finite.entries tuples) → P (key, tuple)
  each_found P tuples tuple is = found (finite.entries tuples) (sym (finite.get-entries tuples key) ∙ is)
    where
      by_order_of : (entry : Indexed) (all : List Indexed) (o : Ordering) → key_cmp key entry.0 ≡ o → cond (is_eq o) (Some entry.1) (find key_cmp key all) ≡ Some tuple
          → P entry → (find key_cmp key all ≡ Some tuple → P (key, tuple)) → P (key, tuple)
      by_order_of entry all Less tied e one others = others e
      by_order_of entry all Equal tied e one others =
          let same : entry.1 ≡ tuple = cc in
          let own : entry.0 ≡ key = sym (key_cmp-IsAntisymmetric key entry.0 tied) in
          subst P (λ i. (own i, same i)) one
      by_order_of entry all Greater tied e one others = others e

      found : (all : List Indexed) → find key_cmp key all ≡ Some tuple → AllByRecursion P all → P (key, tuple)
      found [] e have = absurd cc
      found (entry ∷ all) e have = by_order_of entry all (key_cmp key entry.0) refl e have.0 (λ later. found all later have.1)
