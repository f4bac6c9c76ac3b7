-- The keys of a map as a list in order.
use Rattle.std.proofs.Common.{◌≡◌, ℕ, ◌+◌, Bool, true, false, cond, List, [], ◌∷◌, map, Option, Some, None, HashMap, sym, refl, ap, ◌∙◌, T, ◌&&◌, ◌||◌, is_some, slice_index_or, arith}
use mathlib.Core.Bool.{true≢false}
use Rattle.std.specs.HashMap as hash
use Rattle.std.specs.FinMap as finite
use Rattle.std.specs.FinMap.{FinMap, get-from_sorted, entries-from_sorted}
use Rattle.std.specs.FinMap.Entries.{is_sorted, below_all}
use Rattle.std.specs.Cmp.Lexicographic.{slice_cmp, nat_list_cmp_total}
use Rattle.std.specs.Ordering.{nat_cmp, is_eq, is_lt, ordering_reverse}
use Rattle.std.specs.declared.cmp.Ordering.{Ordering}
use Rattle.std.specs.declared.cmp.Ordering.TheVariants.{Less, Equal, Greater}
use Rattle.std.specs.Map.{lookup}
use Rattle.std.specs.List.{AllByRecursion, IsDistinct, list_any}
use Rattle.std.specs.List.Sorted.{IsStrictlySortedBy, IsSorted, IsPermutation}
use Rattle.std.specs.Option.{unwrap_or}
use Rattle.std.specs.Str.{bytes_eq}
use Rattle.std.proofs.lemmas.List.Sorted.{list_any-IsPermutation}
use Rattle.std.proofs.lemmas.Map.Keys.{IsDistinct-IsPermutation, apart_from_distinct, sorted_from_all_adjacent}
use Rattle.std.proofs.lemmas.Map.Made.{is_some-lookup}
use Rattle.mx_hash.specs.Views.{map_of}
use Rattle.mx_hash.proofs.TableLaws.{same_numbers, same_bytes, same_test, find_by_test, found, flipped_test}

-- keys that differ and don't fall, rise
rises : (a b : List ℕ) → bytes_eq a b ≡ false → is_lt (slice_cmp nat_cmp b a) ≡ false → slice_cmp nat_cmp a b ≡ Less
rises a b differs holds = by_order (slice_cmp nat_cmp a b) refl
  where
    by_order : (o : Ordering) → slice_cmp nat_cmp a b ≡ o → slice_cmp nat_cmp a b ≡ Less
    by_order Less is = is
    by_order Equal is = absurd (true≢false (sym (ap is_eq is) ∙ sym (same_test a b) ∙ differs))
    by_order Greater is = absurd (true≢false (sym (ap is_lt (nat_list_cmp_total.antisymm b a ∙ ap ordering_reverse is)) ∙ holds))

pub rising : (ks : List (List ℕ)) → IsDistinct bytes_eq ks → IsSorted (slice_cmp nat_cmp) ks → IsStrictlySortedBy (slice_cmp nat_cmp) ks
rising ks distinct sorted = sorted_from_all_adjacent nat_list_cmp_total ks [] (λ k within.
    rises (slice_index_or ks k []) (slice_index_or ks (k + 1) []) (apart_from_distinct bytes_eq ks k (k + 1) [] distinct (omega arith) within) (sorted k [] (omega arith) within))

both : (a b : Bool) → T a → T b → T (a && b)
both true b p q = q
both false b p q = absurd p

-- a number for each of some keys
module _ (number : List ℕ → ℕ) where
  abbrev numbered : List (List ℕ) → List (List ℕ × ℕ)
  numbered ks = map (λ k. (k, number k)) ks

  keys_numbered : (ks : List (List ℕ)) → map (λ e. e.0) (numbered ks) ≡ ks
  keys_numbered [] = refl
  keys_numbered (k ∷ ks) = ap (λ ks. k ∷ ks) (keys_numbered ks)

  below_numbered : (key : List ℕ) (ks : List (List ℕ)) → AllByRecursion (λ k. slice_cmp nat_cmp key k ≡ Less) ks → T (below_all (slice_cmp nat_cmp) key (numbered ks))
  below_numbered key [] all = tt
  below_numbered key (k ∷ ks) all = rw all.0 (below_numbered key ks all.1)

  sorted_numbered : (ks : List (List ℕ)) → IsStrictlySortedBy (slice_cmp nat_cmp) ks → T (is_sorted (slice_cmp nat_cmp) (numbered ks))
  unfolding IsStrictlySortedBy
  sorted_numbered [] rise = tt
  sorted_numbered (k ∷ ks) rise = both _ _ (below_numbered k ks rise.0) (sorted_numbered ks rise.1)

  lookup_numbered : (ks : List (List ℕ)) (q : List ℕ) → lookup (bytes_eq q) (numbered ks) ≡ cond (list_any (bytes_eq q) ks) (Some (number q)) None
  lookup_numbered [] q = refl
  lookup_numbered (k ∷ ks) q = by_test (bytes_eq q k) refl (lookup_numbered ks q)
    where
      by_test : (b : Bool) → bytes_eq q k ≡ b → lookup (bytes_eq q) (numbered ks) ≡ cond (list_any (bytes_eq q) ks) (Some (number q)) None
          → cond b (Some (number k)) (lookup (bytes_eq q) (numbered ks)) ≡ cond (b || list_any (bytes_eq q) ks) (Some (number q)) None
      by_test true same others = ap (λ k. Some (number k)) (sym (same_bytes q k same))
      by_test false differs others = others

known : (o : Option ℕ) → o ≡ cond (is_some o) (Some (unwrap_or o 0)) None
known None = refl
known (Some n) = refl

-- a rising list of exactly the keys of a map is the list of its keys
pub keys_in_order : (m : FinMap (slice_cmp nat_cmp) ℕ) (ks : List (List ℕ)) → IsStrictlySortedBy (slice_cmp nat_cmp) ks
    → ((q : List ℕ) → is_some (finite.get m q) ≡ list_any (bytes_eq q) ks) → ks ≡ finite.keys m
keys_in_order m ks rise members =
    let number : List ℕ → ℕ = λ q. unwrap_or (finite.get m q) 0 in
    let sorted = sorted_numbered number ks rise in
    let same : m ≡ finite.from_sorted (numbered number ks) = same_numbers _ _ (λ q.
    known (finite.get m q) ∙ ap (λ b. cond b (Some (number q)) None) (members q) ∙ sym (lookup_numbered number ks q)
    ∙ sym (find_by_test (numbered number ks) q) ∙ sym (get-from_sorted (slice_cmp nat_cmp) (numbered number ks) q sorted)) in
    sym (keys_numbered number ks)
    ∙ ap (map (λ e. e.0)) (sym (entries-from_sorted (slice_cmp nat_cmp) (numbered number ks) sorted))
    ∙ ap finite.keys (sym same)

-- the keys of a table, sorted
pub keys_sorted : {S : Type 0} (m : HashMap (List ℕ) ℕ S) (ks : List (List ℕ)) → hash.IsUnique bytes_eq m
    → IsPermutation (hash.keys m) ks → IsSorted (slice_cmp nat_cmp) ks → ks ≡ finite.keys (map_of m.entries)
keys_sorted m ks unique permuted sorted =
    let distinct = IsDistinct-IsPermutation bytes_eq flipped_test (hash.keys m) ks permuted unique in
    keys_in_order (map_of m.entries) ks (rising ks distinct sorted) (λ q.
    ap is_some (found m.entries q) ∙ is_some-lookup (bytes_eq q) m.entries ∙ list_any-IsPermutation (bytes_eq q) (hash.keys m) ks permuted)
