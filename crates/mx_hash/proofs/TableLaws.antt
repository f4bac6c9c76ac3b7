-- What a table of entries maps, and what a change of one key makes of it.
use Rattle.std.proofs.Common.{◌≡◌, ℕ, Bool, true, false, cond, List, [], ◌∷◌, Option, Some, None, HashMap, sym, refl, ap, ◌∙◌, is_some}
use mathlib.Core.Bool.{true≢false}
use Rattle.std.specs.HashMap as hash
use Rattle.std.specs.FinMap as finite
use Rattle.std.specs.FinMap.{FinMap, find, get-from_entries, get-insert, get-remove, same_map, slice_cmp-IsAntisymmetric, nat_cmp-IsAntisymmetric}
use Rattle.std.specs.Cmp.Lexicographic.{slice_cmp, bytes_decides, nat_list_cmp_total, nat_list_eq_equiv}
use Rattle.std.specs.Ordering.{nat_cmp, eq_by_cmp}
use Rattle.std.specs.Map.{lookup, keys_of, KeepsOthers}
use Rattle.std.specs.List.{IsDistinct}
use Rattle.std.specs.List.Sorted.{IsPermutation}
use Rattle.std.specs.Str.{bytes_eq}
use Rattle.std.proofs.lemmas.List.Sorted.{IsPermutation-map, IsPermutation-sym, Contains-permutation}
use Rattle.std.proofs.lemmas.Map.Keys.{IsDistinct-IsPermutation}
use Rattle.std.proofs.lemmas.Map.Text.{is_eq-slice_cmp}
use Rattle.std.proofs.lemmas.Map.Views.{Contains-from_lookup, lookup-from_Contains}
use Rattle.mx_hash.specs.Views.{map_of}

-- two maps with the same number at each key are the same
pub same_numbers : {X : Type 0} (m n : FinMap (slice_cmp nat_cmp) X) → ((q : List ℕ) → finite.get m q ≡ finite.get n q) → m ≡ n
same_numbers = same_map nat_list_cmp_total (slice_cmp-IsAntisymmetric nat_cmp-IsAntisymmetric)

pub same_test : (q k : List ℕ) → bytes_eq q k ≡ eq_by_cmp (slice_cmp nat_cmp) q k
same_test q k = sym (is_eq-slice_cmp q k)

pub flipped_test : (a b : List ℕ) → bytes_eq a b ≡ bytes_eq b a
flipped_test = nat_list_eq_equiv.symm

turned_test : (k q : List ℕ) → bytes_eq k q ≡ eq_by_cmp (slice_cmp nat_cmp) q k
turned_test k q = flipped_test k q ∙ same_test q k

pub same_bytes : (a b : List ℕ) → bytes_eq a b ≡ true → a ≡ b
same_bytes a b = (bytes_decides a b).0

-- a key that is equal to one of two that differ is not equal to the other
other_differs : (a b k : List ℕ) → bytes_eq a b ≡ false → bytes_eq a k ≡ true → bytes_eq b k ≡ false
other_differs a b k differs same = ap (bytes_eq b) (sym (same_bytes a k same)) ∙ flipped_test b a ∙ differs

module _ {X : Type 0} where
  pub find_by_test : (es : List (List ℕ × X)) (q : List ℕ) → find (slice_cmp nat_cmp) q es ≡ lookup (bytes_eq q) es
  find_by_test [] q = refl
  find_by_test (e ∷ es) q =
      ap (λ b. cond b (Some e.1) (find (slice_cmp nat_cmp) q es)) (sym (same_test q e.0))
      ∙ ap (cond (bytes_eq q e.0) (Some e.1)) (find_by_test es q)

  absent : (es fs : List (List ℕ × X)) (q : List ℕ) → ((v : X) → lookup (bytes_eq q) fs ≡ Some v → lookup (bytes_eq q) es ≡ Some v)
      → lookup (bytes_eq q) es ≡ None → lookup (bytes_eq q) fs ≡ None
  absent es fs q back none = by_case (lookup (bytes_eq q) fs) refl
    where
      by_case : (o : Option X) → lookup (bytes_eq q) fs ≡ o → lookup (bytes_eq q) fs ≡ None
      by_case None is = is
      by_case (Some v) is = absurd (true≢false (ap is_some (sym (back v is) ∙ none)))

  found_there : (es fs : List (List ℕ × X)) (q : List ℕ) → IsDistinct bytes_eq (keys_of fs) → IsPermutation es fs
      → (v : X) → lookup (bytes_eq q) es ≡ Some v → lookup (bytes_eq q) fs ≡ Some v
  found_there es fs q distinct moved v is =
      lookup-from_Contains nat_list_eq_equiv q v fs distinct (Contains-permutation es fs (q, v) moved (Contains-from_lookup same_bytes q v es is))

  -- entries in another order
  lookup_moved : (es fs : List (List ℕ × X)) (q : List ℕ) → IsDistinct bytes_eq (keys_of es) → IsDistinct bytes_eq (keys_of fs) → IsPermutation es fs
      → lookup (bytes_eq q) fs ≡ lookup (bytes_eq q) es
  lookup_moved es fs q es_distinct fs_distinct moved = by_case (lookup (bytes_eq q) es) refl
    where
      by_case : (o : Option X) → lookup (bytes_eq q) es ≡ o → lookup (bytes_eq q) fs ≡ o
      by_case None is = absent es fs q (found_there fs es q es_distinct (IsPermutation-sym es fs moved)) is
      by_case (Some v) is = found_there es fs q fs_distinct moved v is

  -- the number of a key
  pub found : (es : List (List ℕ × X)) (q : List ℕ) → finite.get (map_of es) q ≡ lookup (bytes_eq q) es
  found es q = get-from_entries nat_list_cmp_total es q ∙ find_by_test es q

  module _ {S : Type 0} where
    found_after : (m n : HashMap (List ℕ) X S) (bs : List ℕ) (w : Option X) → hash.UpdatesBy bytes_eq (bytes_eq bs) m n w
        → (q : List ℕ) → finite.get (map_of n.entries) q ≡ cond (eq_by_cmp (slice_cmp nat_cmp) q bs) w (finite.get (map_of m.entries) q)
    unfolding KeepsOthers
    found_after m n bs w updates q =
        found n.entries q ∙ by_test (bytes_eq bs q) refl
        ∙ ap (cond (bytes_eq bs q) w) (sym (found m.entries q))
        ∙ ap (λ b. cond b w (finite.get (map_of m.entries) q)) (turned_test bs q)
      where
        by_test : (b : Bool) → bytes_eq bs q ≡ b → lookup (bytes_eq q) n.entries ≡ cond b w (lookup (bytes_eq q) m.entries)
        by_test true same = ap (λ q. lookup (bytes_eq q) n.entries) (sym (same_bytes bs q same)) ∙ updates.1
        by_test false differs = updates.3 (bytes_eq q) (nat_list_eq_equiv.congr q) (λ k. other_differs bs q k differs)

    -- a number set at a key
    pub inserted : (m n : HashMap (List ℕ) X S) (bs : List ℕ) (number : X) → hash.UpdatesBy bytes_eq (bytes_eq bs) m n (Some number)
        → map_of n.entries ≡ finite.insert (map_of m.entries) bs number
    inserted m n bs number updates = same_numbers _ _ (λ q. found_after m n bs (Some number) updates q ∙ sym (get-insert nat_list_cmp_total (map_of m.entries) bs number q))

    -- a key taken away
    pub taken : (m n : HashMap (List ℕ) X S) (bs : List ℕ) → hash.UpdatesBy bytes_eq (bytes_eq bs) m n None
        → map_of n.entries ≡ finite.remove (map_of m.entries) bs
    taken m n bs updates = same_numbers _ _ (λ q. found_after m n bs None updates q ∙ sym (get-remove nat_list_cmp_total (map_of m.entries) bs q))

    -- entries in another order
    pub moved : (m n : HashMap (List ℕ) X S) → IsPermutation m.entries n.entries → hash.IsUnique bytes_eq n
        → map_of n.entries ≡ map_of m.entries
    moved m n permuted unique =
        let before = IsDistinct-IsPermutation bytes_eq flipped_test (keys_of n.entries) (keys_of m.entries) (IsPermutation-map (λ e. e.0) n.entries m.entries (IsPermutation-sym _ _ permuted)) unique in
        same_numbers _ _ (λ q. found n.entries q ∙ lookup_moved m.entries n.entries q before unique permuted ∙ sym (found m.entries q))
