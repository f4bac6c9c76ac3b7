-- The first so many entries in order: with one entry more, and where a SELECT reads no others.
use Rattle.std.proofs.Common.{◌≡◌, ℕ, false, cond, List, [], ◌∷◌, ◌++◌, HashMap, Option, Some, None, refl, sym, ap, ◌∙◌, subst, zero, suc, ◌+◌, ◌<◌, ◌≤◌, Bool, true, length, filter, take, arith}
use Rattle.std.specs.Prelude.{IfSome, IsSome, IsTrue}
use Rattle.std.specs.BTreeMap.{insert_entry, is_at}
use Rattle.std.specs.Cmp.Lexicographic.{nat_list_cmp_total, slice_cmp}
use Rattle.std.specs.FinMap.{entries, entries-insert, entries_sorted, from_entries_push, get-entries, len-empty, len-entries, nat_cmp-IsAntisymmetric, slice_cmp-IsAntisymmetric}
use Rattle.std.specs.Map.{keys_of, lookup, remove_entry, set_value}
use Rattle.std.specs.List.{AllByRecursion, IsDistinct, All, slice_get}
use Rattle.std.specs.Option.{option_map}
use Rattle.std.specs.Ordering.{nat_cmp, is_lt, match_ordering, ordering_reverse}
use Rattle.std.specs.Str.{bytes_eq}
use Rattle.std.proofs.lemmas.List.{nil_from_length, length-append}
use Rattle.std.proofs.lemmas.Map.{keys-set_value}
use Rattle.std.specs.declared.cmp.Ordering.{Ordering}
use Rattle.std.specs.declared.cmp.Ordering.TheVariants.{Less, Equal, Greater}
use Rattle.mx_hash.specs.Views.{map_of}
use Rattle.mx_hash.proofs.TableLaws.{find_by_test, flipped_test, found, inserted, same_bytes, taken}
use Rattle.mx_schema.specs.Stored.{StoredTuple}
use Rattle.mx_space.specs.HashViews.{hash_entries}
use Rattle.mx_entries.specs.TupleMaps.{under_key}
use Rattle.mx_entries.proofs.SortedLaws.{entries_without, find_is, put_is, set_is, without_is}
use Rattle.mx_msgpack.proofs.Options.{same_some}
use Rattle.mx_key.specs.declared.edge.KeyRange.{KeyRange}
use Rattle.mx_key.specs.declared.iterator.IterKind.{IterKind}
use Rattle.mx_key.specs.Comparable.{holds}
use Rattle.mx_key.specs.Ranges.{descends}
use Rattle.mx_schema.specs.Picks.{directed, window}
use Rattle.mx_entries.specs.Windows.{found_in}
use Rattle.std.specs.HashMap as hash
use Rattle.mx_key.specs.declared.edge.Edge.TheVariants as edge

-- ---- tuples that are kept in a hash map, in the order of their keys

-- a key that comes later differs
apart_before : (front : List StoredTuple) (key tuple : List ℕ) (rest : List StoredTuple) → IsDistinct bytes_eq (keys_of (front ++ (key, tuple) ∷ rest)) → lookup (bytes_eq key) front ≡ None
unfolding IsDistinct
apart_before [] key tuple rest distinct = refl
apart_before (entry ∷ front) key tuple rest distinct =
    ap (λ b. cond b (Some entry.1) (lookup (bytes_eq key) front)) (flipped_test key entry.0 ∙ differs front distinct.0) ∙ apart_before front key tuple rest distinct.1
  where
    differs : (front : List StoredTuple) → AllByRecursion (λ other. bytes_eq entry.0 other ≡ false) (keys_of (front ++ (key, tuple) ∷ rest)) → bytes_eq entry.0 key ≡ false
    differs [] all = all.0
    differs (next ∷ front) all = differs front all.1

pub none_kept : hash_entries [] ≡ []
none_kept = nil_from_length _ (sym (len-entries (map_of [])) ∙ len-empty (slice_cmp nat_cmp) (List ℕ))

-- what is found under a key
pub looked_up : (kept : List StoredTuple) (key : List ℕ) → lookup (bytes_eq key) kept ≡ lookup (is_at (slice_cmp nat_cmp key)) (hash_entries kept)
looked_up kept key = sym (found kept key) ∙ get-entries (map_of kept) key ∙ find_is key (hash_entries kept)

module _ {S : Type 0} (before after : HashMap (List ℕ) (List ℕ) S) (key : List ℕ) where
  -- a tuple is put under a key
  pub put_in : (tuple : List ℕ) → hash.UpdatesBy bytes_eq (bytes_eq key) before after (Some tuple)
      → hash_entries after.entries ≡ insert_entry (slice_cmp nat_cmp) (hash_entries before.entries) key tuple
  put_in tuple updates =
      ap entries (inserted before after key tuple updates) ∙ entries-insert nat_list_cmp_total (map_of before.entries) key tuple ∙ put_is key tuple (hash_entries before.entries)

  -- in the place of another one
  pub set_there : (old : Option (List ℕ)) (tuple : List ℕ) → old ≡ lookup (bytes_eq key) before.entries → IsSome old → hash.UpdatesBy bytes_eq (bytes_eq key) before after (Some tuple)
      → hash_entries after.entries ≡ set_value (is_at (slice_cmp nat_cmp key)) (hash_entries before.entries) tuple
  set_there None tuple found there updates = absurd cc
  set_there (Some old) tuple found there updates =
      put_in tuple updates
      ∙ set_is key old tuple (hash_entries before.entries) (entries_sorted (map_of before.entries)) (sym (looked_up before.entries key) ∙ sym found)

  -- the keys stay then
  pub keys_stay : (old : Option (List ℕ)) (tuple : List ℕ) → old ≡ lookup (bytes_eq key) before.entries → IsSome old → hash.UpdatesBy bytes_eq (bytes_eq key) before after (Some tuple)
      → keys_of (hash_entries after.entries) ≡ keys_of (hash_entries before.entries)
  keys_stay old tuple found there updates =
      ap keys_of (set_there old tuple found there updates) ∙ keys-set_value (is_at (slice_cmp nat_cmp key)) (hash_entries before.entries) tuple

  -- a key is taken out
  pub taken_out : hash.UpdatesBy bytes_eq (bytes_eq key) before after None
      → hash_entries after.entries ≡ remove_entry (is_at (slice_cmp nat_cmp key)) (hash_entries before.entries)
  taken_out updates =
      ap entries (taken before after key updates)
      ∙ entries_without nat_list_cmp_total (slice_cmp-IsAntisymmetric nat_cmp-IsAntisymmetric) (map_of before.entries) key
      ∙ without_is key (hash_entries before.entries) (entries_sorted (map_of before.entries))

-- ---- the entries one by one

module _ (front rest all : List StoredTuple) (key tuple : List ℕ) (parts : front ++ (key, tuple) ∷ rest ≡ all) (distinct : IsDistinct bytes_eq (keys_of all)) where
  -- the tuples up to this one are those before it and it
  pub one_further : hash_entries (front ++ (key, tuple) ∷ []) ≡ insert_entry (slice_cmp nat_cmp) (hash_entries front) key tuple
  one_further =
      ap entries (from_entries_push nat_list_cmp_total (slice_cmp-IsAntisymmetric nat_cmp-IsAntisymmetric) front key tuple (find_by_test front key ∙ none_before))
      ∙ entries-insert nat_list_cmp_total (map_of front) key tuple ∙ put_is key tuple (hash_entries front)
    where
      none_before : lookup (bytes_eq key) front ≡ None
      none_before = apart_before front key tuple rest (subst (λ (l : List StoredTuple). IsDistinct bytes_eq (keys_of l)) (sym parts) distinct)

-- ---- a key with its tuple

-- what is found with its key is what is found under it
pub pair_is : {A : Type 0} (one two : A → List ℕ) (key : List ℕ) (pair : Option A) (tuple : Option (List ℕ)) → IfSome pair (λ p. IsTrue (bytes_eq key (one p)))
    → option_map two pair ≡ tuple → option_map (λ p. (one p, two p)) pair ≡ option_map (under_key key) tuple
pair_is one two key None tuple same is = ap (option_map (under_key key)) is
pair_is one two key (Some p) tuple same is = (λ i. Some (sym (same_bytes key (one p) same) i, two p)) ∙ ap (option_map (under_key key)) is

-- ---- the first so many entries in order: with one entry more, and where a SELECT reads no others

take_twice : {A : Type 0} (count : ℕ) (l : List A) → take count (take count l) ≡ take count l
take_twice zero l = refl
take_twice (suc count) [] = refl
take_twice (suc count) (x ∷ l) = ap (λ (r : List _). x ∷ r) (take_twice count l)

take_fewer : {A : Type 0} (count : ℕ) (x : A) (l : List A) → take count (x ∷ take count l) ≡ take count (x ∷ l)
take_fewer zero x l = refl
take_fewer (suc count) x [] = refl
take_fewer (suc zero) x (y ∷ l) = refl
take_fewer (suc (suc count)) x (y ∷ l) = ap (λ (r : List _). x ∷ r) (take_fewer (suc count) y l)

pub take_all : {A : Type 0} (count : ℕ) (l : List A) → length l ≤ count → take count l ≡ l
take_all zero [] few = refl
take_all zero (x ∷ l) few = absurd (omega (arith, few))
take_all (suc count) [] few = refl
take_all (suc count) (x ∷ l) few = ap (λ (r : List _). x ∷ r) (take_all count l (omega (arith, few)))

abbrev pub no_tuples : List StoredTuple
no_tuples = []

pub first_of_none : (count : ℕ) → take count no_tuples ≡ []
first_of_none zero = refl
first_of_none (suc count) = refl

take_few : {A : Type 0} (count : ℕ) (l : List A) → length (take count l) ≤ count
take_few zero l = omega arith
take_few (suc count) [] = omega arith
take_few (suc count) (x ∷ l) = let few = take_few count l in omega (arith, few)

take_front : {A : Type 0} (count : ℕ) (front : List A) (last : A) → length front ≡ count → take count (front ++ last ∷ []) ≡ front
take_front zero [] last long = refl
take_front zero (x ∷ front) last long = absurd (omega (arith, long))
take_front (suc count) [] last long = absurd (omega (arith, long))
take_front (suc count) (x ∷ front) last long = ap (λ (r : List _). x ∷ r) (take_front count front last (omega (arith, long)))

module _ (key tuple : List ℕ) where
  abbrev with_one : List StoredTuple → List StoredTuple
  with_one all = insert_entry (slice_cmp nat_cmp) all key tuple

  -- those that aren't among the first decide nothing
  pub first_with : (count : ℕ) (all : List StoredTuple) → take count (with_one (take count all)) ≡ take count (with_one all)
  first_with zero all = refl
  first_with (suc count) [] = refl
  first_with (suc count) (entry ∷ all) = by_order_of (slice_cmp nat_cmp key entry.0) (first_with count all)
    where
      by_order_of : (o : Ordering) → take count (with_one (take count all)) ≡ take count (with_one all)
          → take (suc count) (match_ordering o ((key, tuple) ∷ entry ∷ take count all) ((entry.0, tuple) ∷ take count all) (entry ∷ with_one (take count all)))
          ≡ take (suc count) (match_ordering o ((key, tuple) ∷ entry ∷ all) ((entry.0, tuple) ∷ all) (entry ∷ with_one all))
      by_order_of Less others = ap (λ (l : List StoredTuple). (key, tuple) ∷ l) (take_fewer count entry all)
      by_order_of Equal others = ap (λ (l : List StoredTuple). (entry.0, tuple) ∷ l) (take_twice count all)
      by_order_of Greater others = ap (λ (l : List StoredTuple). entry ∷ l) others

  -- one behind them all isn't among them
  pub first_stay : (count : ℕ) (all : List StoredTuple) → count ≤ length (take count all)
      → AllByRecursion (λ (entry : StoredTuple). slice_cmp nat_cmp key entry.0 ≡ Greater) (take count all) → take count all ≡ take count (with_one all)
  first_stay zero all many above = refl
  first_stay (suc count) [] many above = absurd (omega (arith, many))
  first_stay (suc count) (entry ∷ all) many above =
      ap (λ (l : List StoredTuple). entry ∷ l) (first_stay count all (omega (arith, many)) above.1)
      ∙ sym (ap (λ o. take (suc count) (match_ordering o ((key, tuple) ∷ entry ∷ all) ((entry.0, tuple) ∷ all) (entry ∷ with_one all))) above.0)

  one_more : (all : List StoredTuple) → length (with_one all) ≤ suc (length all)
  one_more [] = omega arith
  one_more (entry ∷ all) = by_order_of (slice_cmp nat_cmp key entry.0) (one_more all)
    where
      by_order_of : (o : Ordering) → length (with_one all) ≤ suc (length all)
          → length (match_ordering o ((key, tuple) ∷ entry ∷ all) ((entry.0, tuple) ∷ all) (entry ∷ with_one all)) ≤ suc (suc (length all))
      by_order_of Less others = omega arith
      by_order_of Equal others = omega arith
      by_order_of Greater others = omega (arith, others)

  module _ (count : ℕ) (first all : List StoredTuple) (are : first ≡ take count all) where
    -- few enough with one more
    pub few_with : (now : List StoredTuple) → now ≡ with_one first → length now ≤ count → now ≡ take count (with_one all)
    few_with now is few =
        sym (take_all count now few) ∙ ap (take count) (is ∙ ap with_one are) ∙ first_with count all

    -- one too many, of which the last one goes
    pub last_goes : (more front : List StoredTuple) (last : StoredTuple) → more ≡ with_one first → more ≡ front ++ last ∷ [] → length front ≡ count
        → front ≡ take count (with_one all)
    last_goes more front last is parts long =
        sym (take_front count front last long) ∙ ap (take count) (sym parts ∙ is ∙ ap with_one are) ∙ first_with count all

    -- where there is one too many, it goes
    pub popped : (last : Option StoredTuple) (more front : List StoredTuple) → more ≡ with_one first → (0 < length more → IsSome last) → IfSome last (λ p. more ≡ front ++ p ∷ [])
        → count < length more → front ≡ take count (with_one all)
    popped None more front is there parts many = let never = there (omega (arith, many)) in absurd cc
    popped (Some last) more front is there parts many =
        let longer = ap length parts ∙ length-append front (last ∷ []) in
        let shorter = one_more first in
        let whole = ap length is in
        let few = take_few count all in
        let same = ap length are in
        last_goes more front last is parts (omega (arith, longer, shorter, whole, few, same, many))

-- a key above the last one is above them all
pub above_last : (key last other : List ℕ) → slice_cmp nat_cmp last key ≡ Less → is_lt (slice_cmp nat_cmp last other) ≡ false → slice_cmp nat_cmp key other ≡ Greater
above_last key last other less not_above =
    nat_list_cmp_total.antisymm key other ∙ ap ordering_reverse (by_order_of (slice_cmp nat_cmp last other) refl not_above)
  where
    by_order_of : (o : Ordering) → slice_cmp nat_cmp last other ≡ o → is_lt o ≡ false → slice_cmp nat_cmp other key ≡ Less
    by_order_of Less is never = absurd cc
    by_order_of Equal is never = sym (nat_list_cmp_total.congr last other key is) ∙ less
    by_order_of Greater is never =
        nat_list_cmp_total.trans other last key (nat_list_cmp_total.antisymm other last ∙ ap ordering_reverse is) less

pub all_above : (key last : List ℕ) (all : List StoredTuple) → slice_cmp nat_cmp last key ≡ Less → All (λ (other : List ℕ). is_lt (slice_cmp nat_cmp last other) ≡ false) (keys_of all)
    → AllByRecursion (λ (entry : StoredTuple). slice_cmp nat_cmp key entry.0 ≡ Greater) all
all_above key last [] less none_greater = tt
all_above key last (entry ∷ all) less none_greater =
    (above_last key last entry.0 less (none_greater 0 [] (omega arith)), all_above key last all less (λ k d within. none_greater (suc k) d (omega (arith, within))))

-- and above the last one, a member
pub above_one : (key last : List ℕ) (place : ℕ) (tuple : List ℕ) (all : List StoredTuple) → AllByRecursion (λ (entry : StoredTuple). slice_cmp nat_cmp key entry.0 ≡ Greater) all
    → slice_get all place ≡ Some (last, tuple) → slice_cmp nat_cmp last key ≡ Less
above_one key last place tuple [] above there = absurd cc
above_one key last zero tuple (entry ∷ all) above there =
    nat_list_cmp_total.antisymm last key
    ∙ ap (λ k. ordering_reverse (slice_cmp nat_cmp key k)) (sym (ap (λ (e : StoredTuple). e.0) (same_some entry (last, tuple) there)))
    ∙ ap ordering_reverse above.0
above_one key last (suc place) tuple (entry ∷ all) above there = above_one key last place tuple all above.1 there

-- ---- what a SELECT of all keys reads

window_first : (offset limit : ℕ) (all : List StoredTuple) → window offset limit (take (offset + limit) all) ≡ window offset limit all
window_first zero limit all =
    let sum : 0 + limit ≡ limit = omega arith in
    ap (λ n. take limit (take n all)) sum ∙ take_twice limit all
window_first (suc offset) limit [] =
    let sum : suc offset + limit ≡ suc (offset + limit) = omega arith in
    ap (λ n. window (suc offset) limit (take n no_tuples)) sum
window_first (suc offset) limit (entry ∷ all) =
    let sum : suc offset + limit ≡ suc (offset + limit) = omega arith in
    ap (λ n. window (suc offset) limit (take n (entry ∷ all))) sum ∙ window_first offset limit all

all_pass : (passes : StoredTuple → Bool) → ((entry : StoredTuple) → passes entry ≡ true) → (all : List StoredTuple) → filter passes all ≡ all
all_pass passes each [] = refl
all_pass passes each (entry ∷ all) = ap (λ b. cond b (entry ∷ filter passes all) (filter passes all)) (each entry) ∙ ap (λ (l : List StoredTuple). entry ∷ l) (all_pass passes each all)

module _ (range : KeyRange) (iterator : IterKind) (low : range.low ≡ edge.Open) (high : range.high ≡ edge.Open) (up : descends iterator ≡ false) (offset limit : ℕ) where
  window_of : (kept : List StoredTuple) → found_in kept range iterator offset limit ≡ window offset limit kept
  window_of kept =
      ap (λ down. window offset limit (directed down (filter (λ (entry : StoredTuple). holds range entry.0) kept))) up
      ∙ ap (window offset limit) (all_pass (λ entry. holds range entry.0) (λ entry. rw (low, high) refl) kept)

  -- none is read behind the first so many
  pub found_first : (kept all : List StoredTuple) → take (offset + limit) kept ≡ take (offset + limit) all → found_in kept range iterator offset limit ≡ found_in all range iterator offset limit
  found_first kept all same =
      window_of kept ∙ sym (window_first offset limit kept) ∙ ap (window offset limit) same ∙ window_first offset limit all ∙ sym (window_of all)
