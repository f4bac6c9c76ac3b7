-- An index's entries as bytes: one more, one less, and the one under a key.
use Rattle.std.proofs.Common.{◌≡◌, ℕ, Bool, true, false, cond, not, T, List, [], ◌∷◌, map, Option, Some, None, Result, Ok, Err, refl, sym, ap, ◌∙◌, subst, true≢false}
use Rattle.std.specs.Prelude.{IfOk, OnOk, is_some, if◌then◌else◌}
use Rattle.std.specs.declared.cmp.Ordering.{Ordering}
use Rattle.std.specs.declared.cmp.Ordering.TheVariants.{Less, Equal, Greater}
use Rattle.std.specs.BTreeMap.{insert_entry, is_at}
use Rattle.std.specs.Cmp.{tied_itself}
use Rattle.std.specs.Cmp.Lexicographic.{slice_cmp}
use Rattle.std.specs.FinMap.{FinMap, empty, entries, entries-insert, entries_sorted, get, get-entries, insert, len-empty, len-entries, remove}
use Rattle.std.specs.FinMap.Entries.{below_all, by_order, find, is_sorted, put, where_key}
use Rattle.std.specs.List.{AllByRecursion}
use Rattle.std.specs.Map.{lookup, remove_entry}
use Rattle.std.specs.Option.{option_map}
use Rattle.std.specs.Ordering.{eq_by_cmp, is_eq, is_lt, match_ordering, nat_cmp}
use Rattle.std.proofs.lemmas.Cmp.{nat_list_cmp_total}
use Rattle.std.proofs.lemmas.List.{nil_from_length}
use Rattle.mx_key.specs.Keys.{Key, AreFit, key_cmp}
use Rattle.mx_key.specs.Comparable.{comparable_of}
use Rattle.mx_key.proofs.EncodingLaws.{bytes_order}
use Rattle.mx_key.proofs.KeyLaws.{key_cmp-IsAntisymmetric, key_cmp_total}
use Rattle.mx_schema.proofs.OrderLaws.{both, lt_is}
use Rattle.mx_entries.specs.EntryChanges.{with_added, without_key}
use Rattle.mx_entries.specs.Entries.{IndexEntry, has_entry, with_entry}
use Rattle.mx_entries.specs.KeptEntries.{StoresEntries, entry_bytes}
use Rattle.mx_entries.proofs.EntriesLaws.{tied_is}
use Rattle.mx_entries.proofs.SortedLaws.{entries_without}

abbrev Pairs : Type 0
Pairs = List (Key × Key)

abbrev pub Kept : Type 0
Kept = FinMap key_cmp Key

abbrev AreFitPairs : Pairs → Type 0
AreFitPairs all = AllByRecursion (λ (entry : Key × Key). AreFit entry.0) all

-- ---- no entries

pub stores_none : (kept : List IndexEntry) → kept ≡ [] → StoresEntries kept empty
stores_none kept none =
    let no_entries : entries (empty {X = Key} {R = key_cmp}) ≡ [] = nil_from_length _ (sym (len-entries empty) ∙ len-empty key_cmp Key) in
    record {
      same = ap (map entry_bytes) no_entries ∙ sym none;
      fit = subst AreFitPairs (sym no_entries) tt;
    }

-- ---- one more

module _ (key primary : Key) (fit : AreFit key) where
  put_bytes : (all : Pairs) → AreFitPairs all
      → insert_entry (slice_cmp nat_cmp) (map entry_bytes all) (comparable_of key) (comparable_of primary) ≡ map entry_bytes (put key_cmp key primary all)
  put_bytes [] fits = refl
  put_bytes (entry ∷ all) fits =
      ap (λ o. match_ordering o (new ∷ entry_bytes entry ∷ map entry_bytes all) ((comparable_of entry.0, comparable_of primary) ∷ map entry_bytes all) (entry_bytes entry ∷ inserted))
      (bytes_order key entry.0 fit fits.0)
      ∙ by_case (key_cmp key entry.0) (put_bytes all fits.1)
    where
      new : IndexEntry
      new = (comparable_of key, comparable_of primary)

      inserted : List IndexEntry
      inserted = insert_entry (slice_cmp nat_cmp) (map entry_bytes all) (comparable_of key) (comparable_of primary)

      by_case : (o : Ordering) → inserted ≡ map entry_bytes (put key_cmp key primary all)
          → match_ordering o (new ∷ entry_bytes entry ∷ map entry_bytes all) ((comparable_of entry.0, comparable_of primary) ∷ map entry_bytes all) (entry_bytes entry ∷ inserted)
          ≡ map entry_bytes (by_order o ((key, primary) ∷ entry ∷ all) ((entry.0, primary) ∷ all) (entry ∷ put key_cmp key primary all))
      by_case Less same = refl
      by_case Equal same = refl
      by_case Greater same = ap (λ l. entry_bytes entry ∷ l) same

  put_fit : (all : Pairs) → AreFitPairs all → AreFitPairs (put key_cmp key primary all)
  put_fit [] fits = (fit, tt)
  put_fit (entry ∷ all) fits = by_case (key_cmp key entry.0) (put_fit all fits.1)
    where
      by_case : (o : Ordering) → AreFitPairs (put key_cmp key primary all)
          → AreFitPairs (by_order o ((key, primary) ∷ entry ∷ all) ((entry.0, primary) ∷ all) (entry ∷ put key_cmp key primary all))
      by_case Less later = (fit, fits)
      by_case Equal later = fits
      by_case Greater later = (fits.0, later)

  pub stores_more : (kept : List IndexEntry) (all : Kept) → StoresEntries kept all
      → StoresEntries (insert_entry (slice_cmp nat_cmp) kept (comparable_of key) (comparable_of primary)) (insert all key primary)
  stores_more kept all keeps =
      let new : entries (insert all key primary) ≡ put key_cmp key primary (entries all) = entries-insert key_cmp_total all key primary in
      record {
        same = ap (map entry_bytes) new ∙ sym (put_bytes (entries all) keeps.fit)
            ∙ ap (λ l. insert_entry (slice_cmp nat_cmp) l (comparable_of key) (comparable_of primary)) keeps.same;
        fit = subst AreFitPairs (sym new) (put_fit (entries all) keeps.fit);
      }

-- ---- one less

module _ (key : Key) (fit : AreFit key) where
  abbrev apart : Key → Bool
  apart other = not (eq_by_cmp key_cmp key other)

  entries_removed : (all : Kept) → entries (remove all key) ≡ where_key key_cmp apart (entries all)
  entries_removed all = entries_without key_cmp_total key_cmp-IsAntisymmetric all key

  -- no key ties above one that does
  kept_above : (entry : Key × Key) (all : Pairs) → key_cmp key entry.0 ≡ Equal → T (below_all key_cmp entry.0 all) → where_key key_cmp apart all ≡ all
  kept_above entry [] tied below = refl
  kept_above entry (next ∷ all) tied below =
      let above = both (is_lt (key_cmp entry.0 next.0)) (below_all key_cmp entry.0 all) below in
      let less = key_cmp_total.congr key entry.0 next.0 tied ∙ lt_is (key_cmp entry.0 next.0) above.0 in
      ap (λ (o : Ordering). cond (not (is_eq o)) (next ∷ where_key key_cmp apart all) (where_key key_cmp apart all)) less
      ∙ ap (λ (l : Pairs). next ∷ l) (kept_above entry all tied above.1)

  without_bytes : (all : Pairs) → AreFitPairs all → T (is_sorted key_cmp all)
      → map entry_bytes (where_key key_cmp apart all) ≡ remove_entry (is_at (slice_cmp nat_cmp (comparable_of key))) (map entry_bytes all)
  without_bytes [] fits sorted = refl
  without_bytes (entry ∷ all) fits sorted =
      let rises = both (below_all key_cmp entry.0 all) (is_sorted key_cmp all) sorted in
      by_order_of (key_cmp key entry.0) refl (without_bytes all fits.1 rises.1) (subst T (sym rises.0) tt)
      ∙ ap (λ (o : Ordering). cond (is_eq o) (map entry_bytes all) (entry_bytes entry ∷ remove_entry (is_at (slice_cmp nat_cmp (comparable_of key))) (map entry_bytes all)))
      (sym (bytes_order key entry.0 fit fits.0))
    where
      without : List IndexEntry
      without = remove_entry (is_at (slice_cmp nat_cmp (comparable_of key))) (map entry_bytes all)

      by_order_of : (o : Ordering) → key_cmp key entry.0 ≡ o
          → map entry_bytes (where_key key_cmp apart all) ≡ remove_entry (is_at (slice_cmp nat_cmp (comparable_of key))) (map entry_bytes all)
          → T (below_all key_cmp entry.0 all)
          → map entry_bytes (cond (not (is_eq o)) (entry ∷ where_key key_cmp apart all) (where_key key_cmp apart all))
          ≡ cond (is_eq o) (map entry_bytes all) (entry_bytes entry ∷ remove_entry (is_at (slice_cmp nat_cmp (comparable_of key))) (map entry_bytes all))
      by_order_of Less e others below = ap (λ (l : List IndexEntry). entry_bytes entry ∷ l) others
      by_order_of Equal e others below = ap (map entry_bytes) (kept_above entry all e below)
      by_order_of Greater e others below = ap (λ (l : List IndexEntry). entry_bytes entry ∷ l) others

  left_fit : (all : Pairs) → AreFitPairs all → AreFitPairs (where_key key_cmp apart all)
  left_fit [] fits = tt
  left_fit (entry ∷ all) fits = by_test (apart entry.0) (left_fit all fits.1)
    where
      by_test : (b : Bool) → AreFitPairs (where_key key_cmp apart all) → AreFitPairs (cond b (entry ∷ where_key key_cmp apart all) (where_key key_cmp apart all))
      by_test true others = (fits.0, others)
      by_test false others = others

  pub stores_less : (kept : List IndexEntry) (all : Kept) → StoresEntries kept all
      → StoresEntries (remove_entry (is_at (slice_cmp nat_cmp (comparable_of key))) kept) (remove all key)
  stores_less kept all keeps = record {
    same = ap (map entry_bytes) (entries_removed all) ∙ without_bytes (entries all) keeps.fit (entries_sorted all)
        ∙ ap (remove_entry (is_at (slice_cmp nat_cmp (comparable_of key)))) keeps.same;
    fit = subst AreFitPairs (sym (entries_removed all)) (left_fit (entries all) keeps.fit);
  }

  -- ---- the entry under a key

  found_bytes : (all : Pairs) → AreFitPairs all
      → lookup (is_at (slice_cmp nat_cmp (comparable_of key))) (map entry_bytes all) ≡ option_map comparable_of (find key_cmp key all)
  found_bytes [] fits = refl
  found_bytes (entry ∷ all) fits =
      ap (λ o. cond (is_eq o) (Some (comparable_of entry.1)) (lookup (is_at (slice_cmp nat_cmp (comparable_of key))) (map entry_bytes all))) (bytes_order key entry.0 fit fits.0)
      ∙ by_test (eq_by_cmp key_cmp key entry.0) (found_bytes all fits.1)
    where
      by_test : (b : Bool) → lookup (is_at (slice_cmp nat_cmp (comparable_of key))) (map entry_bytes all) ≡ option_map comparable_of (find key_cmp key all)
          → cond b (Some (comparable_of entry.1)) (lookup (is_at (slice_cmp nat_cmp (comparable_of key))) (map entry_bytes all))
          ≡ option_map comparable_of (cond b (Some entry.1) (find key_cmp key all))
      by_test true later = refl
      by_test false later = later

  pub stored_entry : (kept : List IndexEntry) (all : Kept) → StoresEntries kept all
      → lookup (is_at (slice_cmp nat_cmp (comparable_of key))) kept ≡ option_map comparable_of (get all key)
  stored_entry kept all keeps =
      ap (lookup (is_at (slice_cmp nat_cmp (comparable_of key)))) (sym keeps.same)
      ∙ found_bytes (entries all) keeps.fit ∙ ap (option_map comparable_of) (sym (get-entries all key))

-- an entry under a key that had none
pub stores_added : (key primary : Key) (added : Option (List ℕ)) → AreFit key → added ≡ Some (comparable_of key) → (kept : List IndexEntry) (all : Kept) → StoresEntries kept all
    → get all key ≡ None → StoresEntries (with_added added (comparable_of primary) kept) (insert all key primary)
stores_added key primary added fit is kept all keeps new =
    let fresh : has_entry (comparable_of key) kept ≡ false = ap is_some (stored_entry key fit kept all keeps ∙ ap (option_map comparable_of) new) in
    subst (λ a. StoresEntries (with_added a (comparable_of primary) kept) (insert all key primary)) (sym is)
    (subst (λ b. StoresEntries (if b then kept else insert_entry (slice_cmp nat_cmp) kept (comparable_of key) (comparable_of primary)) (insert all key primary)) (sym fresh)
    (stores_more key primary fit kept all keeps))

-- ---- an entry that was added is taken back

pub taken_back : (kept : List IndexEntry) (key primary : List ℕ) → lookup (is_at (slice_cmp nat_cmp key)) kept ≡ None
    → remove_entry (is_at (slice_cmp nat_cmp key)) (insert_entry (slice_cmp nat_cmp) kept key primary) ≡ kept
taken_back [] key primary none = ap (λ o. cond (is_eq o) [] ((key, primary) ∷ [])) (tied_itself nat_list_cmp_total key)
taken_back (entry ∷ kept) key primary none = by_order_of (slice_cmp nat_cmp key entry.0) refl none (taken_back kept key primary)
  where
    at : List ℕ → Bool
    at = is_at (slice_cmp nat_cmp key)

    by_order_of : (o : Ordering) → slice_cmp nat_cmp key entry.0 ≡ o → cond (is_eq o) (Some entry.1) (lookup (is_at (slice_cmp nat_cmp key)) kept) ≡ None
        → (lookup (is_at (slice_cmp nat_cmp key)) kept ≡ None → remove_entry (is_at (slice_cmp nat_cmp key)) (insert_entry (slice_cmp nat_cmp) kept key primary) ≡ kept)
        → remove_entry (is_at (slice_cmp nat_cmp key))
        (match_ordering o ((key, primary) ∷ entry ∷ kept) ((entry.0, primary) ∷ kept) (entry ∷ insert_entry (slice_cmp nat_cmp) kept key primary)) ≡ entry ∷ kept
    by_order_of Less is none later =
        ap (λ o. cond (is_eq o) (entry ∷ kept) ((key, primary) ∷ remove_entry (is_at (slice_cmp nat_cmp key)) (entry ∷ kept))) (tied_itself nat_list_cmp_total key)
    by_order_of Equal is none later = absurd cc
    by_order_of Greater is none later =
        ap (λ o. cond (is_eq o) (insert_entry (slice_cmp nat_cmp) kept key primary) (entry ∷ remove_entry (is_at (slice_cmp nat_cmp key)) (insert_entry (slice_cmp nat_cmp) kept key primary))) is
        ∙ ap (λ l. entry ∷ l) (later none)

-- so it is where the entry was new, and nothing was added where it wasn't
pub undone : (kept : List IndexEntry) (key primary : List ℕ) (is_new : Bool) → is_new ≡ not (has_entry key kept)
    → (if is_new then without_key (Some key) (with_entry key primary kept) else with_entry key primary kept) ≡ kept
undone kept key primary is_new is = by_entry (lookup (is_at (slice_cmp nat_cmp key)) kept) refl is_new is
  where
    by_entry : (o : Option (List ℕ)) → lookup (is_at (slice_cmp nat_cmp key)) kept ≡ o → (is_new : Bool) → is_new ≡ not (has_entry key kept)
        → (if is_new then without_key (Some key) (with_entry key primary kept) else with_entry key primary kept) ≡ kept
    by_entry None there true is =
        ap (λ o. without_key (Some key) (if is_some o then kept else insert_entry (slice_cmp nat_cmp) kept key primary)) there ∙ taken_back kept key primary there
    by_entry None there false is = absurd (true≢false (sym (is ∙ ap (λ (o : Option (List ℕ)). not (is_some o)) there)))
    by_entry (Some one) there true is = absurd (true≢false (is ∙ ap (λ (o : Option (List ℕ)). not (is_some o)) there))
    by_entry (Some one) there false is = ap (λ o. if is_some o then kept else insert_entry (slice_cmp nat_cmp) kept key primary) there

pub undone_so : {E : Type 0} (kept : List IndexEntry) (key copy primary : List ℕ) (added : Option (List ℕ)) (now : List IndexEntry) (result : Result Bool E) → added ≡ Some key → copy ≡ key
    → IfOk result (λ is_new. is_new ≡ not (has_entry copy kept)) → OnOk result (now ≡ with_entry copy primary kept)
    → IfOk result (λ is_new. (if is_new then without_key added now else now) ≡ kept)
undone_so kept key copy primary added now (Ok is_new) is same new put =
    (λ i. if is_new then without_key ((is ∙ ap (λ k. Some k) (sym same)) i) (put i) else put i) ∙ undone kept copy primary is_new new
undone_so kept key copy primary added now (Err why) is same new put = tt

-- two keys are one where their bytes are
pub one_by_bytes : (one other : Key) → AreFit one → AreFit other → comparable_of one ≡ comparable_of other → one ≡ other
one_by_bytes one other fit fits same =
    tied_is one other (ap is_eq (sym (bytes_order one other fit fits) ∙ ap (slice_cmp nat_cmp (comparable_of one)) (sym same) ∙ tied_itself nat_list_cmp_total (comparable_of one)))
