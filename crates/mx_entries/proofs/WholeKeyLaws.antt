-- A key that has all parts of the index is that of one entry at most.
use Rattle.std.specs.declared.cmp.Ordering.{Ordering}
use Rattle.std.specs.declared.cmp.Ordering.TheVariants.{Less, Equal, Greater}
use Rattle.std.specs.Ordering.{nat_cmp, is_lt, is_gt, is_eq, ordering_reverse, ordering_then}
use Rattle.std.specs.Cmp.Lexicographic.{slice_cmp}
use Rattle.std.specs.BTreeMap.{is_at}
use Rattle.std.specs.List.{AllByRecursion}
use Rattle.std.specs.Option.{option_to_list, option_map, ok_or}
use Rattle.std.specs.FinMap.{entries, entries_sorted, get}
use Rattle.std.specs.FinMap.Entries.{below_all, is_sorted}
use Rattle.std.specs.Map.{lookup, lookup_key, lookup_entry}
use Rattle.std.specs.Bool.{IsTrue}
use Rattle.std.specs.Prelude.{T, ◌==◌}
use Rattle.std.proofs.lemmas.Bool.{eqb-true}
use Rattle.std.proofs.Common.{◌≡◌, ℕ, zero, suc, ◌<◌, ◌≤◌, Bool, true, false, cond, not, ◌&&◌, ◌||◌, List, [], ◌∷◌, length, map, filter, drop, take, Option, Some, None, Ok, refl, sym, ap, ◌∙◌, ◌⊎◌, inl, inr, arith}
use Rattle.std.proofs.Math.Seq.{take-nil, drop-nil}
use Rattle.mx_msgpack.specs.Items.{array_of, values_from}
use Rattle.mx_msgpack.proofs.Options.{same_some}
use Rattle.mx_msgpack.proofs.ItemLaws.{values_count}
use Rattle.mx_key.specs.declared.part.Part.{Part}
use Rattle.mx_key.specs.Keys.{Key, AreFit, part_cmp, key_cmp, is_key_prefix}
use Rattle.mx_key.specs.Ranges.{prefix_range, lies_in, range_of, range_by, descends}
use Rattle.mx_key.specs.declared.edge.Edge.TheVariants as edge
use Rattle.mx_key.specs.declared.edge.KeyRange.{KeyRange}
use Rattle.mx_key.specs.declared.iterator.IterKind.{IterKind}
use Rattle.mx_key.specs.declared.iterator.IterKind.TheVariants.{Eq, Req}
use Rattle.mx_key.specs.Comparable.{comparable_of, edges_of, holds}
use Rattle.mx_key.specs.Parts.{parts_of_items, key_of_array, part_in}
use Rattle.mx_key.specs.declared.fault.Misfit.TheVariants.{WrongPart}
use Rattle.mx_key.proofs.KeyLaws.{key_cmp_total}
use Rattle.mx_key.proofs.ArrayLaws.{few_items}
use Rattle.mx_key.proofs.EncodingLaws.{bytes_order}
use Rattle.mx_key.proofs.RangeLaws.{range_holds}
use Rattle.mx_schema.specs.State.{Tuples}
use Rattle.mx_schema.specs.Picks.{Indexed, directed, window}
use Rattle.mx_schema.specs.Stored.{StoredTuple, StoresTuples, stored_tuple}
use Rattle.mx_schema.proofs.TakenLaws.{stored_get}
use Rattle.mx_entries.specs.Windows.{AreFitEntries, found_in, one_found}
use Rattle.mx_entries.specs.TupleMaps.{under_key}
use Rattle.mx_schema.proofs.OrderLaws.{both, eq_is, first_of, lt_is}
use Rattle.mx_schema.proofs.PartLaws.{first_part}
use Rattle.mx_entries.proofs.PickLaws.{kept_in_range}
use Rattle.mx_entries.proofs.SortedLaws.{entry_of}

-- ---- how many parts a key has

items_length : (place : ℕ) (def : List Part) (items : List (List ℕ)) (key : Key) → length items ≤ length def → parts_of_items place def items ≡ Ok key → length key ≡ length items
items_length place def [] [] few e = refl
items_length place def [] (part ∷ parts) few e = absurd cc
items_length place [] (item ∷ items) key few e = absurd (omega arith)
items_length place (part ∷ def) (item ∷ items) key few e =
    let m = first_part (ok_or (part_in part.kind item) (WrongPart place part.kind)) (parts_of_items (suc place) def items) key e in
    ap length (sym m.3) ∙ ap suc (items_length (suc place) def items m.1 (omega arith) m.2)

-- that of an array with as many items as the index has parts
array_length : (def : List Part) (bytes : List ℕ) (count : ℕ) (content : List ℕ) (key : Key) → array_of bytes ≡ Some (count, content) → count ≡ length def
    → key_of_array def bytes ≡ Ok key → length key ≡ length def
array_length def bytes count content key array many e =
    let all = values_count count content in
    items_length 0 def (values_from count content) key (omega arith) (sym (few_items def bytes count content array (omega arith)) ∙ e) ∙ all ∙ many

-- where a comparison tells that it has as many
pub array_is_whole : (def : List Part) (bytes : List ℕ) (count : ℕ) (content : List ℕ) (key : Key) (many : ℕ) → array_of bytes ≡ Some (count, content)
    → key_of_array def bytes ≡ Ok key → many ≡ length def → IsTrue (count == many) → length key ≡ length def
array_is_whole def bytes count content key many array fits all same = array_length def bytes count content key array (eqb-true count many same ∙ all) fits

-- ---- keys with as many parts

same_length_prefix : (key other : Key) → length key ≡ length other → is_key_prefix key other ≡ is_eq (key_cmp key other)
same_length_prefix [] [] same = refl
same_length_prefix [] (part ∷ parts) same = absurd (omega arith)
same_length_prefix (part ∷ parts) [] same = absurd (omega arith)
same_length_prefix (one ∷ ones) (other ∷ others) same = by_first (part_cmp one other) (same_length_prefix ones others (omega arith))
  where
    by_first : (o : Ordering) → is_key_prefix ones others ≡ is_eq (key_cmp ones others) → (is_eq o && is_key_prefix ones others) ≡ is_eq (ordering_then o (key_cmp ones others))
    by_first Less rest = refl
    by_first Equal rest = rest
    by_first Greater rest = refl

-- one lies in the range of the other where they tie
in_prefix_range : (key other : Key) → length key ≡ length other → lies_in (prefix_range key) other ≡ is_eq (key_cmp key other)
in_prefix_range key other same =
    ap (λ b. not (is_lt (key_cmp other key)) && (not (is_gt (key_cmp other key)) || b)) (same_length_prefix key other same)
    ∙ ap (λ o. not (is_lt (key_cmp other key)) && (not (is_gt (key_cmp other key)) || is_eq o)) (key_cmp_total.antisymm key other)
    ∙ by_order (key_cmp other key)
    ∙ ap is_eq (sym (key_cmp_total.antisymm key other))
  where
    by_order : (o : Ordering) → (not (is_lt o) && (not (is_gt o) || is_eq (ordering_reverse o))) ≡ is_eq (ordering_reverse o)
    by_order Less = refl
    by_order Equal = refl
    by_order Greater = refl

-- ---- the entry of a key

module _ (key : Key) where
  ties : Indexed → Bool
  ties entry = is_eq (key_cmp key entry.0)

  -- none ties after one that does
  none_after : (entry : Indexed) (all : List Indexed) → key_cmp key entry.0 ≡ Equal → T (below_all key_cmp entry.0 all) → filter ties all ≡ []
  unfolding ties
  none_after entry [] tied below = refl
  none_after entry (next ∷ all) tied below =
      let above = both (is_lt (key_cmp entry.0 next.0)) (below_all key_cmp entry.0 all) below in
      let apart = key_cmp_total.congr key entry.0 next.0 tied ∙ lt_is (key_cmp entry.0 next.0) above.0 in
      ap (λ o. cond (is_eq o) (next ∷ filter ties all) (filter ties all)) apart ∙ none_after entry all tied above.1

  lying_ties : (all : List Indexed) → AllByRecursion (λ (entry : Indexed). length key ≡ length entry.0) all → filter (λ entry. lies_in (prefix_range key) entry.0) all ≡ filter ties all
  unfolding ties
  lying_ties [] same = refl
  lying_ties (entry ∷ all) (same, others) =
      (λ i. cond (in_prefix_range key entry.0 same i) (entry ∷ lying_ties all others i) (lying_ties all others i))

  module _ (fit : AreFit key) where
    looked_up : (all : List Indexed) → T (is_sorted key_cmp all) → AreFitEntries all
        → map stored_tuple (filter ties all) ≡ option_to_list (lookup_entry (is_at (slice_cmp nat_cmp (comparable_of key))) (map stored_tuple all))
    unfolding ties
    looked_up [] sorted fits = refl
    looked_up (entry ∷ all) sorted fits =
        let rises = both (below_all key_cmp entry.0 all) (is_sorted key_cmp all) sorted_parts in
        by_test (is_eq (key_cmp key entry.0)) refl (looked_up all rises.1 fits.1)
        ∙ ap (λ o. option_to_list (cond (is_eq o) (Some (stored_tuple entry)) (lookup_entry (is_at (slice_cmp nat_cmp (comparable_of key))) (map stored_tuple all))))
        (sym (bytes_order key entry.0 fit fits.0))
      where
        sorted_parts : T (below_all key_cmp entry.0 all && is_sorted key_cmp all)
        sorted_parts = sorted

        by_test : (b : Bool) → is_eq (key_cmp key entry.0) ≡ b
            → map stored_tuple (filter ties all) ≡ option_to_list (lookup_entry (is_at (slice_cmp nat_cmp (comparable_of key))) (map stored_tuple all))
            → map stored_tuple (cond b (entry ∷ filter ties all) (filter ties all))
            ≡ option_to_list (cond b (Some (stored_tuple entry)) (lookup_entry (is_at (slice_cmp nat_cmp (comparable_of key))) (map stored_tuple all)))
        by_test true tied others =
            ap (λ l. map stored_tuple (entry ∷ l)) (none_after entry all (eq_is (key_cmp key entry.0) tied) (first_of (below_all key_cmp entry.0 all) (is_sorted key_cmp all) sorted_parts))
        by_test false apart others = others

-- what a lookup finds, by its key and its value
key_of_entry : (test : List ℕ → Bool) (kept : List StoredTuple) → lookup_key test kept ≡ option_map (λ entry. entry.0) (lookup_entry test kept)
key_of_entry test [] = refl
key_of_entry test (entry ∷ kept) = by_test (test entry.0) (key_of_entry test kept)
  where
    by_test : (b : Bool) → lookup_key test kept ≡ option_map (λ entry. entry.0) (lookup_entry test kept)
        → cond b (Some entry.0) (lookup_key test kept) ≡ option_map (λ entry. entry.0) (cond b (Some entry) (lookup_entry test kept))
    by_test true others = refl
    by_test false others = others

pub value_of_entry : (test : List ℕ → Bool) (kept : List StoredTuple) → lookup test kept ≡ option_map (λ entry. entry.1) (lookup_entry test kept)
value_of_entry test [] = refl
value_of_entry test (entry ∷ kept) = by_test (test entry.0) (value_of_entry test kept)
  where
    by_test : (b : Bool) → lookup test kept ≡ option_map (λ entry. entry.1) (lookup_entry test kept)
        → cond b (Some entry.1) (lookup test kept) ≡ option_map (λ entry. entry.1) (cond b (Some entry) (lookup_entry test kept))
    by_test true others = refl
    by_test false others = others

-- ---- a window over one entry at most

one_in_window : (down : Bool) (offset limit : ℕ) (o : Option StoredTuple) → 0 < limit → window offset limit (directed down (option_to_list o)) ≡ drop offset (option_to_list o)
one_in_window down offset zero o more = absurd (omega arith)
one_in_window true zero (suc n) None more = refl
one_in_window false zero (suc n) None more = refl
one_in_window true (suc m) (suc n) None more = refl
one_in_window false (suc m) (suc n) None more = refl
one_in_window true zero (suc n) (Some entry) more = ap (λ l. entry ∷ l) (take-nil n)
one_in_window false zero (suc n) (Some entry) more = ap (λ l. entry ∷ l) (take-nil n)
one_in_window true (suc m) (suc n) (Some entry) more = ap (take (suc n)) (drop-nil m) ∙ sym (drop-nil m)
one_in_window false (suc m) (suc n) (Some entry) more = ap (take (suc n)) (drop-nil m) ∙ sym (drop-nil m)

-- what is found by a key that has all parts is its entry, where the offset doesn't skip it
pub found_at : (key : Key) → AreFit key → (tuples : Tuples) → AreFitEntries (entries tuples) → AllByRecursion (λ (entry : Indexed). length entry.0 ≡ length key) (entries tuples)
    → (kept : List StoredTuple) → map stored_tuple (entries tuples) ≡ kept → (down : Bool) (offset limit : ℕ) → 0 < limit
    → window offset limit (directed down (filter (λ entry. holds (edges_of (prefix_range key)) entry.0) kept))
    ≡ one_found offset (lookup_entry (is_at (slice_cmp nat_cmp (comparable_of key))) kept)
found_at key fit tuples fits whole kept same down offset limit more =
    let all = entries tuples in
    let range = prefix_range key in
    ap (λ l. window offset limit (directed down (filter (λ entry. holds (edges_of range) entry.0) l))) (sym same)
    ∙ ap (λ l. window offset limit (directed down l)) (
    kept_in_range range (λ sought f. range_holds range sought (fit, fit) f) all fits
    ∙ ap (map stored_tuple) (lying_ties key all (as_long all whole))
    ∙ looked_up key fit all (entries_sorted tuples) fits)
    ∙ one_in_window down offset limit (lookup_entry (is_at (slice_cmp nat_cmp (comparable_of key))) (map stored_tuple all)) more
    ∙ ap (λ l. drop offset (option_to_list (lookup_entry (is_at (slice_cmp nat_cmp (comparable_of key))) l))) same
  where
    as_long : (all : List Indexed) → AllByRecursion (λ (entry : Indexed). length entry.0 ≡ length key) all → AllByRecursion (λ (entry : Indexed). length key ≡ length entry.0) all
    as_long [] h = tt
    as_long (entry ∷ all) (h, hs) = (sym h, as_long all hs)

-- the pair that a lookup gives, by what it says of its two halves
pub pair_found : {A : Type 0} (one two : A → List ℕ) (found : Option A) (test : List ℕ → Bool) (kept : List StoredTuple)
    → option_map one found ≡ lookup_key test kept → option_map two found ≡ lookup test kept → option_map (λ pair. (one pair, two pair)) found ≡ lookup_entry test kept
pair_found one two found test kept k v = by_found found (lookup_entry test kept) (k ∙ key_of_entry test kept) (v ∙ value_of_entry test kept)
  where
    by_found : (o : Option _) (e : Option StoredTuple) → option_map one o ≡ option_map (λ entry. entry.0) e → option_map two o ≡ option_map (λ entry. entry.1) e
        → option_map (λ pair. (one pair, two pair)) o ≡ e
    by_found None None k v = refl
    by_found None (Some entry) k v = absurd cc
    by_found (Some pair) None k v = absurd cc
    by_found (Some pair) (Some entry) k v = λ i. Some (same_some (one pair) entry.0 k i, same_some (two pair) entry.1 v i)

inclusive_is : (one other : List ℕ) → edge.Inclusive one ≡ edge.Inclusive other → one ≡ other
inclusive_is one other e = cc

-- a range of EQ or REQ begins with its key
pub whole_bytes : (iterator : IterKind) (key : Key) → (iterator ≡ Eq) ⊎ (iterator ≡ Req) → (range : KeyRange) (bytes : List ℕ)
    → range ≡ edges_of (range_of iterator key) → range.low ≡ edge.Inclusive bytes → bytes ≡ comparable_of key
whole_bytes iterator key exact range bytes edges low = by_key key exact edges
  where
    by_key : (key : Key) → (iterator ≡ Eq) ⊎ (iterator ≡ Req) → range ≡ edges_of (range_of iterator key) → bytes ≡ comparable_of key
    by_key [] exact edges = let none : edge.Inclusive bytes ≡ edge.Open = sym low ∙ ap (λ r. r.low) edges in absurd cc
    by_key (part ∷ parts) (inl same) edges =
        inclusive_is bytes (comparable_of (part ∷ parts)) (sym low ∙ ap (λ r. r.low) (edges ∙ ap edges_of (ap (λ i. range_by i (part ∷ parts)) same)))
    by_key (part ∷ parts) (inr same) edges =
        inclusive_is bytes (comparable_of (part ∷ parts)) (sym low ∙ ap (λ r. r.low) (edges ∙ ap edges_of (ap (λ i. range_by i (part ∷ parts)) same)))

-- what a lookup of such a key finds is what the scan of its range does
pub whole_found : (tuples : Tuples) → AreFitEntries (entries tuples) → (kept : List StoredTuple) → map stored_tuple (entries tuples) ≡ kept → (iterator : IterKind) (key : Key)
    → AreFit key → AllByRecursion (λ (entry : Indexed). length entry.0 ≡ length key) (entries tuples) → (iterator ≡ Eq) ⊎ (iterator ≡ Req)
    → (range : KeyRange) (bytes : List ℕ) → range ≡ edges_of (range_of iterator key) → range.low ≡ edge.Inclusive bytes
    → (offset limit : ℕ) → 0 < limit → (found : Option StoredTuple) → found ≡ lookup_entry (is_at (slice_cmp nat_cmp bytes)) kept
    → one_found offset found ≡ found_in kept range iterator offset limit
whole_found tuples fits kept same iterator [] fit whole exact range bytes edges low offset limit more found is = let none : edge.Inclusive bytes ≡ edge.Open = sym low ∙ ap (λ r. r.low) edges in absurd cc
whole_found tuples fits kept same iterator (part ∷ parts) fit whole exact range bytes edges low offset limit more found is =
    let key = part ∷ parts in
    let all : range ≡ edges_of (prefix_range key) = edges ∙ ap edges_of (by_iterator exact) in
    let bytes_is = inclusive_is bytes (comparable_of key) (sym low ∙ ap (λ r. r.low) all) in
    ap (one_found offset) (is ∙ ap (λ b. lookup_entry (is_at (slice_cmp nat_cmp b)) kept) bytes_is)
    ∙ sym (found_at key fit tuples fits whole kept same (descends iterator) offset limit more)
    ∙ ap (λ r. found_in kept r iterator offset limit) (sym all)
  where
    by_iterator : (iterator ≡ Eq) ⊎ (iterator ≡ Req) → range_of iterator (part ∷ parts) ≡ prefix_range (part ∷ parts)
    by_iterator (inl same) = ap (λ i. range_by i (part ∷ parts)) same
    by_iterator (inr same) = ap (λ i. range_by i (part ∷ parts)) same

-- the row of a key among tuples
pub row_stored : (kept : List StoredTuple) (all : Tuples) (wanted : Key) (bytes : List ℕ) → StoresTuples kept all → AreFit wanted → bytes ≡ comparable_of wanted
    → lookup_entry (is_at (slice_cmp nat_cmp bytes)) kept ≡ option_map (under_key bytes) (get all wanted)
row_stored kept all wanted bytes keeps fit is = entry_of bytes kept ∙ ap (option_map (under_key bytes)) (stored_get kept all wanted bytes keeps fit is)
