-- Entries that are kept by their keys and the places in them where the primary keys begin.
use Rattle.std.proofs.Common.{◌≡◌, ℕ, Bool, true, false, cond, not, ◌&&◌, List, [], ◌∷◌, filter, Option, Some, None, refl, sym, ap, ◌∙◌, ◌≢◌, ◌++◌, length, take, drop, true≢false, suc}
use Rattle.std.specs.Prelude.{MatchOption}
use Rattle.std.specs.Cmp.Lexicographic.{slice_cmp}
use Rattle.std.specs.Option.{option_map, is_some}
use Rattle.std.specs.Ordering.{nat_cmp, is_lt, match_ordering, is_eq}
use Rattle.std.specs.BTreeMap.Range.{entries_between}
use Rattle.std.specs.Str.{bytes_eq}
use Rattle.std.proofs.lemmas.List.{drop_at, take_at}
use Rattle.std.proofs.lemmas.Slice.Eq.{bytes_eq-Decides}
use Rattle.std.specs.declared.cmp.Ordering.{Ordering}
use Rattle.std.specs.declared.cmp.Ordering.TheVariants.{Less, Equal, Greater}
use Rattle.std.specs.BTreeMap.{insert_entry, is_at}
use Rattle.std.specs.Map.{keys_of, lookup, remove_entry}
use Rattle.mx_key.specs.declared.edge.KeyRange.{KeyRange}
use Rattle.mx_key.specs.Comparable.{bound_of, holds}
use Rattle.mx_entries.proofs.PickLaws.{entries_held}
use Rattle.mx_entries.specs.Entries.{first_from, entries_split, entry_split, has_entry, with_entry}
use Rattle.mx_key.specs.declared.edge.Edge.TheVariants as edge

-- ---- the first entry of a range without an upper end

abbrev head_of : {X : Type 0} → List X → Option X
head_of [] = None
head_of (entry ∷ others) = Some entry

abbrev from : (key : List ℕ) → KeyRange
from key = record { low = edge.Inclusive key; high = edge.Open }

first_held : {X : Type 0} (key : List ℕ) (all : List (List ℕ × X)) → head_of (filter (λ entry. holds (from key) entry.0) all) ≡ first_from key all
first_held key [] = refl
first_held key (entry ∷ all) = by_test (not (is_lt (slice_cmp nat_cmp entry.0 key))) (first_held key all)
  where
    by_test : (b : Bool) → head_of (filter (λ entry. holds (from key) entry.0) all) ≡ first_from key all
        → head_of (cond (b && true) (entry ∷ filter (λ entry. holds (from key) entry.0) all) (filter (λ entry. holds (from key) entry.0) all))
        ≡ cond b (Some entry) (first_from key all)
    by_test true later = refl
    by_test false later = later

-- what comes first between these bounds is the first entry from the key
pub first_is : {A X : Type 0} (view : A → List ℕ × X) (found : Option A) (key : List ℕ) (all between rest : List (List ℕ × X))
    → between ≡ entries_between (slice_cmp nat_cmp) (bound_of (edge.Inclusive key)) (bound_of edge.Open) all
    → MatchOption found ((between ≡ []) × (rest ≡ [])) (λ entry. between ≡ view entry ∷ rest) → option_map view found ≡ first_from key all
first_is view found key all between rest is steps =
    by_found found steps ∙ ap head_of (is ∙ entries_held (from key) all) ∙ first_held key all
  where
    by_found : (found : Option _) → MatchOption found ((between ≡ []) × (rest ≡ [])) (λ entry. between ≡ view entry ∷ rest) → option_map view found ≡ head_of between
    by_found None none = ap head_of (sym none.0)
    by_found (Some entry) next = ap head_of (sym next)

-- ---- where bytes are two rows of bytes, one after the other, they begin with the first and end with the second

differ : (one other : List ℕ) (ne : Bool) → ne ≡ not (bytes_eq one other) → ne ≡ true → one ≢ other
differ one other ne told is same = true≢false (sym is ∙ told ∙ ap not ((bytes_eq-Decides one other).1 same))

module _ (whole first second front rest : List ℕ) (front_is : front ≡ take (length first) whole) (rest_is : rest ≡ drop (length first) whole)
    (ne : Bool) where
  pub other_front : ne ≡ not (bytes_eq front first) → ne ≡ true → whole ≢ first ++ second
  other_front told is joined = differ front first ne told is (front_is ∙ ap (take (length first)) joined ∙ take_at first second (length first) refl)

  pub other_rest : ne ≡ not (bytes_eq rest second) → ne ≡ true → whole ≢ first ++ second
  other_rest told is joined = differ rest second ne told is (rest_is ∙ ap (drop (length first)) joined ∙ drop_at first second (length first) refl)

-- ---- entries that are kept by their keys and the places in them where the primary keys begin

-- the same keys have entries
pub split_has : (key : List ℕ) (kept : List (List ℕ × ℕ)) → has_entry key (entries_split kept) ≡ has_entry key kept
split_has key [] = refl
split_has key (entry ∷ kept) = by_test (is_at (slice_cmp nat_cmp key) entry.0) (split_has key kept)
  where
    by_test : (b : Bool) → has_entry key (entries_split kept) ≡ has_entry key kept
        → is_some (cond b (Some (drop entry.1 entry.0)) (lookup (is_at (slice_cmp nat_cmp key)) (entries_split kept)))
        ≡ is_some (cond b (Some entry.1) (lookup (is_at (slice_cmp nat_cmp key)) kept))
    by_test true others = refl
    by_test false others = others

-- they stand under the same keys
pub split_keys : (kept : List (List ℕ × ℕ)) → keys_of (entries_split kept) ≡ keys_of kept
split_keys [] = refl
split_keys (entry ∷ kept) = ap (λ (l : List (List ℕ)). entry.0 ∷ l) (split_keys kept)

pub split_length : (kept : List (List ℕ × ℕ)) → length (entries_split kept) ≡ length kept
split_length [] = refl
split_length (entry ∷ kept) = ap suc (split_length kept)

-- one is inserted where there is none under its key
split_insert : (key : List ℕ) (begin : ℕ) (kept : List (List ℕ × ℕ)) → has_entry key kept ≡ false
    → entries_split (insert_entry (slice_cmp nat_cmp) kept key begin) ≡ insert_entry (slice_cmp nat_cmp) (entries_split kept) key (drop begin key)
split_insert key begin [] none = refl
split_insert key begin (entry ∷ kept) none = by_order (slice_cmp nat_cmp key entry.0) none (split_insert key begin kept)
  where
    by_order : (o : Ordering) → is_some (cond (is_eq o) (Some entry.1) (lookup (is_at (slice_cmp nat_cmp key)) kept)) ≡ false
        → (has_entry key kept ≡ false → entries_split (insert_entry (slice_cmp nat_cmp) kept key begin) ≡ insert_entry (slice_cmp nat_cmp) (entries_split kept) key (drop begin key))
        → entries_split (match_ordering o ((key, begin) ∷ entry ∷ kept) ((entry.0, begin) ∷ kept) (entry ∷ insert_entry (slice_cmp nat_cmp) kept key begin))
        ≡ match_ordering o ((key, drop begin key) ∷ entry_split entry ∷ entries_split kept) ((entry.0, drop begin key) ∷ entries_split kept)
        (entry_split entry ∷ insert_entry (slice_cmp nat_cmp) (entries_split kept) key (drop begin key))
    by_order Less none others = refl
    by_order Equal none others = absurd (true≢false none)
    by_order Greater none others = ap (λ l. entry_split entry ∷ l) (others none)

-- one more, unless there is one under its key
pub split_with : (key : List ℕ) (begin : ℕ) (kept : List (List ℕ × ℕ)) → entries_split (with_entry key begin kept) ≡ with_entry key (drop begin key) (entries_split kept)
split_with key begin kept =
    by_test (has_entry key kept) refl
    ∙ ap (λ b. cond b (entries_split kept) (insert_entry (slice_cmp nat_cmp) (entries_split kept) key (drop begin key))) (sym (split_has key kept))
  where
    by_test : (b : Bool) → has_entry key kept ≡ b
        → entries_split (cond b kept (insert_entry (slice_cmp nat_cmp) kept key begin))
        ≡ cond b (entries_split kept) (insert_entry (slice_cmp nat_cmp) (entries_split kept) key (drop begin key))
    by_test true there = refl
    by_test false none = split_insert key begin kept none

-- one is taken out
pub split_remove : (key : List ℕ) (kept : List (List ℕ × ℕ))
    → entries_split (remove_entry (is_at (slice_cmp nat_cmp key)) kept) ≡ remove_entry (is_at (slice_cmp nat_cmp key)) (entries_split kept)
split_remove key [] = refl
split_remove key (entry ∷ kept) = by_test (is_at (slice_cmp nat_cmp key) entry.0) (split_remove key kept)
  where
    test : List ℕ → Bool
    test = is_at (slice_cmp nat_cmp key)

    by_test : (b : Bool) → entries_split (remove_entry test kept) ≡ remove_entry test (entries_split kept)
        → entries_split (cond b kept (entry ∷ remove_entry test kept)) ≡ cond b (entries_split kept) (entry_split entry ∷ remove_entry test (entries_split kept))
    by_test true others = refl
    by_test false others = ap (λ l. entry_split entry ∷ l) others

-- the first one from a key on
pub split_first : (key : List ℕ) (kept : List (List ℕ × ℕ)) → option_map entry_split (first_from key kept) ≡ first_from key (entries_split kept)
split_first key [] = refl
split_first key (entry ∷ kept) = by_test (not (is_lt (slice_cmp nat_cmp entry.0 key))) (split_first key kept)
  where
    by_test : (b : Bool) → option_map entry_split (first_from key kept) ≡ first_from key (entries_split kept)
        → option_map entry_split (cond b (Some entry) (first_from key kept)) ≡ cond b (Some (entry_split entry)) (first_from key (entries_split kept))
    by_test true others = refl
    by_test false others = others

-- those in a range
pub split_held : (range : KeyRange) (kept : List (List ℕ × ℕ))
    → entries_split (filter (λ entry. holds range entry.0) kept) ≡ filter (λ entry. holds range entry.0) (entries_split kept)
split_held range [] = refl
split_held range (entry ∷ kept) = by_test (holds range entry.0) (split_held range kept)
  where
    held : {X : Type 0} → List ℕ × X → Bool
    held one = holds range one.0

    by_test : (b : Bool) → entries_split (filter held kept) ≡ filter held (entries_split kept)
        → entries_split (cond b (entry ∷ filter held kept) (filter held kept)) ≡ cond b (entry_split entry ∷ filter held (entries_split kept)) (filter held (entries_split kept))
    by_test true others = ap (λ l. entry_split entry ∷ l) others
    by_test false others = others
