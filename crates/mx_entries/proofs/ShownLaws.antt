-- The entries of an index of what is seen: those of tuples that weren't written, and those of own tuples.
use Rattle.std.proofs.Common.{◌≡◌, Bool, true, false, cond, not, ◌&&◌, T, List, [], ◌∷◌, filter, Option, Some, None, refl, sym, ap, ◌∙◌, subst, true≢false, ℕ, map, length}
use Rattle.std.specs.FinMap.{FinMap, entries, entries_sorted, get, get-entries, empty, get-empty}
use Rattle.std.specs.FinMap.Entries.{below_all, find, is_sorted, same_entries}
use Rattle.std.specs.List.{AllByRecursion}
use Rattle.std.specs.Ordering.{eq_by_cmp, is_lt}
use Rattle.std.specs.Prelude.{is_some}
use Rattle.std.specs.Option.{unwrap_or}
use Rattle.mx_key.specs.Keys.{Key, key_cmp, AreFit}
use Rattle.mx_key.proofs.KeyLaws.{key_cmp-IsAntisymmetric, key_cmp_total}
use Rattle.mx_schema.proofs.OrderLaws.{both, lt_is}
use Rattle.mx_entries.proofs.EntriesLaws.{tied_is, ties_itself, by_tuple, kept_found, primary_in}
use Rattle.mx_entries.proofs.IndexedLaws.{above, not_first}
use Rattle.mx_key.specs.Comparable.{comparable_of}
use Rattle.mx_key.proofs.EncodingLaws.{bytes_order}
use Rattle.mx_schema.specs.declared.index_def.IndexDef.{IndexDef}
use Rattle.mx_schema.specs.Picks.{Indexed}
use Rattle.mx_schema.specs.State.{Tuples}
use Rattle.mx_entries.specs.Built.{AreLong}
use Rattle.mx_entries.specs.Entries.{IndexEntry}
use Rattle.mx_entries.specs.KeptEntries.{kept_entries}
use Rattle.mx_entries.specs.KeptKeys.{kept_key}
use Rattle.mx_entries.specs.OwnWrites.{OwnWrites, under}
use Rattle.mx_entries.proofs.MergedLaws.{IsBelow, IsOrdered}
use Rattle.mx_entries.proofs.UnderLaws.{get-under}
use Rattle.mx_entries.proofs.SeenLaws.{each_own, no_tuple}

-- ---- the entries of a map that pass a test, as those of another map

joined : (b c : Bool) → T b → T c → T (b && c)
joined true c one other = other
joined false c one other = one

module _ {X : Type 0} where
  -- a value that is found, where its entry passes
  abbrev pub passing : (Key × X → Bool) → Key → Option X → Option X
  passing p key None = None
  passing p key (Some value) = cond (p (key, value)) (Some value) None

  below-filter : (p : Key × X → Bool) (key : Key) (all : List (Key × X)) → T (below_all key_cmp key all) → T (below_all key_cmp key (filter p all))
  below-filter p key [] below = tt
  below-filter p key (entry ∷ all) below =
      let parts = both (is_lt (key_cmp key entry.0)) (below_all key_cmp key all) below in
      by_test (p entry) (subst T (sym parts.0) tt) (below-filter p key all parts.1)
    where
      by_test : (b : Bool) → T (is_lt (key_cmp key entry.0)) → T (below_all key_cmp key (filter p all)) → T (below_all key_cmp key (cond b (entry ∷ filter p all) (filter p all)))
      by_test true less later = joined (is_lt (key_cmp key entry.0)) (below_all key_cmp key (filter p all)) less later
      by_test false less later = later

  sorted-filter : (p : Key × X → Bool) (all : List (Key × X)) → T (is_sorted key_cmp all) → T (is_sorted key_cmp (filter p all))
  sorted-filter p [] sorted = tt
  sorted-filter p (entry ∷ all) sorted =
      let rises = both (below_all key_cmp entry.0 all) (is_sorted key_cmp all) sorted in
      by_test (p entry) (below-filter p entry.0 all (subst T (sym rises.0) tt)) (sorted-filter p all rises.1)
    where
      by_test : (b : Bool) → T (below_all key_cmp entry.0 (filter p all)) → T (is_sorted key_cmp (filter p all)) → T (is_sorted key_cmp (cond b (entry ∷ filter p all) (filter p all)))
      by_test true below later = joined (below_all key_cmp entry.0 (filter p all)) (is_sorted key_cmp (filter p all)) below later
      by_test false below later = later

  -- nothing is found behind an entry under its key
  none_behind : (entry : Key × X) (all : List (Key × X)) → T (below_all key_cmp entry.0 all) → find key_cmp entry.0 all ≡ None
  none_behind entry all below = by_found (find key_cmp entry.0 all) refl
    where
      by_found : (o : Option X) → find key_cmp entry.0 all ≡ o → o ≡ None
      by_found None is = refl
      by_found (Some value) is =
          absurd (true≢false (sym (ties_itself entry.0 entry.0 refl) ∙ not_first entry entry.0 (above entry.0 value entry.0 all is below)))

  find-filter : (p : Key × X → Bool) (key : Key) (all : List (Key × X)) → T (is_sorted key_cmp all) → find key_cmp key (filter p all) ≡ passing p key (find key_cmp key all)
  find-filter p key [] sorted = refl
  find-filter p key (entry ∷ all) sorted =
      let rises = both (below_all key_cmp entry.0 all) (is_sorted key_cmp all) sorted in
      by_tests (p entry) refl (eq_by_cmp key_cmp key entry.0) refl (find-filter p key all rises.1) (subst T (sym rises.0) tt)
    where
      by_tests : (b : Bool) → p entry ≡ b → (c : Bool) → eq_by_cmp key_cmp key entry.0 ≡ c → find key_cmp key (filter p all) ≡ passing p key (find key_cmp key all)
          → T (below_all key_cmp entry.0 all)
          → find key_cmp key (cond b (entry ∷ filter p all) (filter p all)) ≡ passing p key (cond c (Some entry.1) (find key_cmp key all))
      by_tests true passes true tied later below =
          ap (λ c. cond c (Some entry.1) (find key_cmp key (filter p all))) tied
          ∙ ap (λ b. cond b (Some entry.1) None) (sym (ap (λ k. p (k, entry.1)) (tied_is key entry.0 tied) ∙ passes))
      by_tests true passes false apart later below = ap (λ c. cond c (Some entry.1) (find key_cmp key (filter p all))) apart ∙ later
      by_tests false fails true tied later below =
          later ∙ ap (passing p key) (ap (λ k. find key_cmp k all) (tied_is key entry.0 tied) ∙ none_behind entry all below)
          ∙ ap (λ b. cond b (Some entry.1) None) (sym (ap (λ k. p (k, entry.1)) (tied_is key entry.0 tied) ∙ fails))
      by_tests false fails false apart later below = later

  module _ (p : Key × X → Bool) (one other : FinMap key_cmp X) where
    get-part : (m : FinMap key_cmp X) (key : Key) → find key_cmp key (filter p (entries m)) ≡ passing p key (get m key)
    get-part m key = find-filter p key (entries m) (entries_sorted m) ∙ ap (passing p key) (sym (get-entries m key))

    -- two maps have the same part
    pub same_part : ((key : Key) → passing p key (get one key) ≡ passing p key (get other key)) → filter p (entries one) ≡ filter p (entries other)
    same_part same =
        same_entries key_cmp key_cmp_total key_cmp-IsAntisymmetric (filter p (entries one)) (filter p (entries other))
        (sorted-filter p (entries one) (entries_sorted one)) (sorted-filter p (entries other) (entries_sorted other))
        (λ key. get-part one key ∙ same key ∙ sym (get-part other key))

    -- one map is a part of the other
    pub part_is : ((key : Key) → passing p key (get one key) ≡ get other key) → filter p (entries one) ≡ entries other
    part_is same =
        same_entries key_cmp key_cmp_total key_cmp-IsAntisymmetric (filter p (entries one)) (entries other)
        (sorted-filter p (entries one) (entries_sorted one)) (entries_sorted other)
        (λ key. get-part one key ∙ same key ∙ get-entries other key)

-- what has a property in both parts has it whole
pub all_parts : {X : Type 0} (P : X → Type 0) (p : X → Bool) (all : List X) → AllByRecursion P (filter p all) → AllByRecursion P (filter (λ x. not (p x)) all) → AllByRecursion P all
all_parts P p [] one other = tt
all_parts P p (x ∷ all) one other = by_test (p x) one other (λ o q. all_parts P p all o q)
  where
    by_test : (b : Bool) → AllByRecursion P (cond b (x ∷ filter p all) (filter p all)) → AllByRecursion P (cond (not b) (x ∷ filter (λ x. not (p x)) all) (filter (λ x. not (p x)) all))
        → (AllByRecursion P (filter p all) → AllByRecursion P (filter (λ x. not (p x)) all) → AllByRecursion P all) → P x × AllByRecursion P all
    by_test true one other later = (one.0, later one.1 other)
    by_test false one other later = (other.0, later one other.1)

-- ---- the entries of an index of what is seen: those of tuples that weren't written, and those of own tuples

module _ (written : OwnWrites) (all : Tuples) where
  abbrev seen : Tuples
  seen = under written all

  abbrev own : Tuples
  own = under written empty

  -- the tuple of a primary key wasn't written
  abbrev pub unwritten : Key → Bool
  unwritten key = not (is_some (get written key))

  -- what a test by the primary key leaves of what is seen
  seen_shown : {X : Type 0} (key : Key) (value : Option (List ℕ) → Option X) (keep : Bool → Option X → Option X)
      → ((o : Option X) → keep false o ≡ None) → keep (unwritten key) (value (get seen key)) ≡ keep (unwritten key) (value (get all key))
  seen_shown key value keep none =
      ap (λ o. keep (unwritten key) (value o)) (get-under written all key) ∙ by_write (get written key)
    where
      by_write : (o : Option (Option (List ℕ))) → keep (not (is_some o)) (value (unwrap_or o (get all key))) ≡ keep (not (is_some o)) (value (get all key))
      by_write None = refl
      by_write (Some write) = none (value write) ∙ sym (none (value (get all key)))

  seen_own : {X : Type 0} (key : Key) (value : Option (List ℕ) → Option X) (keep : Bool → Option X → Option X)
      → ((o : Option X) → keep false o ≡ None) → ((o : Option X) → keep true o ≡ o) → value None ≡ None
      → keep (not (unwritten key)) (value (get seen key)) ≡ value (get own key)
  seen_own key value keep none kept nothing =
      ap (λ o. keep (not (unwritten key)) (value o)) (get-under written all key) ∙ by_write (get written key) ∙ ap value (sym (get-under written empty key))
    where
      by_write : (o : Option (Option (List ℕ))) → keep (not (not (is_some o))) (value (unwrap_or o (get all key))) ≡ value (unwrap_or o (no_tuple key))
      by_write None = none (value (get all key)) ∙ sym (ap value (get-empty key_cmp key) ∙ nothing)
      by_write (Some write) = kept (value write)

  -- ---- the tuples by their primary keys

  abbrev keep_value : {X : Type 0} → Bool → Option X → Option X
  keep_value b o = cond b o None

  keeps_false : {X : Type 0} (o : Option X) → keep_value false o ≡ None
  keeps_false o = refl

  keeps_true : {X : Type 0} (o : Option X) → keep_value true o ≡ o
  keeps_true o = refl

  -- a test of the key alone
  passing_key : {X : Type 0} (p : Key → Bool) (key : Key) (o : Option X) → passing (λ entry. p entry.0) key o ≡ keep_value (p key) o
  passing_key p key None = by_test (p key)
    where
      by_test : {X : Type 0} (b : Bool) → ◌≡◌ {A = Option X} None (cond b None None)
      by_test true = refl
      by_test false = refl
  passing_key p key (Some value) = refl

  pub tuples_shown : filter (λ (entry : Indexed). unwritten entry.0) (entries seen) ≡ filter (λ (entry : Indexed). unwritten entry.0) (entries all)
  tuples_shown = same_part (λ entry. unwritten entry.0) seen all
      (λ key. passing_key unwritten key (get seen key) ∙ seen_shown key (λ o. o) keep_value keeps_false ∙ sym (passing_key unwritten key (get all key)))

  pub tuples_own : filter (λ (entry : Indexed). not (unwritten entry.0)) (entries seen) ≡ entries own
  tuples_own = part_is (λ entry. not (unwritten entry.0)) seen own
      (λ key. passing_key (λ k. not (unwritten k)) key (get seen key) ∙ seen_own key (λ o. o) keep_value keeps_false keeps_true refl)

  -- ---- the entries of an index

  module _ (def : IndexDef) (long : ℕ) (whole : AreLong long all) (whole_seen : AreLong long seen) where
    whole_own : AreLong long own
    whole_own = each_own (λ entry. length entry.0 ≡ long) written all whole_seen

    -- an entry under a key leads to its last parts
    passing_entry : (p : Key → Bool) (key : Key) (o : Option (List ℕ))
        → passing (λ (entry : Key × Key). p entry.1) key (by_tuple def long key o) ≡ keep_value (p (primary_in long key)) (by_tuple def long key o)
    passing_entry p key None = by_test (p (primary_in long key))
      where
        by_test : (b : Bool) → ◌≡◌ {A = Option Key} None (cond b None None)
        by_test true = refl
        by_test false = refl
    passing_entry p key (Some tuple) = by_tests (eq_by_cmp key_cmp key (kept_key def (primary_in long key) tuple)) (p (primary_in long key)) refl
      where
        by_tests : (tied b : Bool) → p (primary_in long key) ≡ b
            → passing (λ (entry : Key × Key). p entry.1) key (cond tied (Some (primary_in long key)) None) ≡ cond b (cond tied (Some (primary_in long key)) None) None
        by_tests true b is = ap (λ b. cond b (Some (primary_in long key)) None) is
        by_tests false true is = refl
        by_tests false false is = refl

    pub entries_shown : filter (λ (entry : Key × Key). unwritten entry.1) (entries (kept_entries def seen)) ≡ filter (λ (entry : Key × Key). unwritten entry.1) (entries (kept_entries def all))
    entries_shown = same_part (λ (entry : Key × Key). unwritten entry.1) (kept_entries def seen) (kept_entries def all)
        (λ key. ap (passing (λ (entry : Key × Key). unwritten entry.1) key) (kept_found def long key seen whole_seen)
        ∙ passing_entry unwritten key (get seen (primary_in long key))
        ∙ seen_shown (primary_in long key) (by_tuple def long key) keep_value keeps_false
        ∙ sym (passing_entry unwritten key (get all (primary_in long key)))
        ∙ ap (passing (λ (entry : Key × Key). unwritten entry.1) key) (sym (kept_found def long key all whole)))

    pub entries_own : filter (λ (entry : Key × Key). not (unwritten entry.1)) (entries (kept_entries def seen)) ≡ entries (kept_entries def own)
    entries_own = part_is (λ (entry : Key × Key). not (unwritten entry.1)) (kept_entries def seen) (kept_entries def own)
        (λ key. ap (passing (λ (entry : Key × Key). not (unwritten entry.1)) key) (kept_found def long key seen whole_seen)
        ∙ passing_entry (λ k. not (unwritten k)) key (get seen (primary_in long key))
        ∙ seen_own (primary_in long key) (by_tuple def long key) keep_value keeps_false keeps_true refl
        ∙ sym (kept_found def long key own whole_own))

-- ---- as bytes

module _ {X : Type 0} (bytes : X → List ℕ) where
  abbrev entry_as : Key × X → IndexEntry
  entry_as entry = (comparable_of entry.0, bytes entry.1)

  below_as : (entry : Key × X) (all : List (Key × X)) → AreFit entry.0 → AllByRecursion (λ (one : Key × X). AreFit one.0) all → T (below_all key_cmp entry.0 all)
      → AllByRecursion (IsBelow (entry_as entry)) (map entry_as all)
  below_as entry [] fit fits below = tt
  below_as entry (next ∷ all) fit fits below =
      let parts = both (is_lt (key_cmp entry.0 next.0)) (below_all key_cmp entry.0 all) below in
      (bytes_order entry.0 next.0 fit fits.0 ∙ lt_is (key_cmp entry.0 next.0) parts.0, below_as entry all fit fits.1 parts.1)

  ordered_as : (all : List (Key × X)) → AllByRecursion (λ (one : Key × X). AreFit one.0) all → T (is_sorted key_cmp all) → IsOrdered IsBelow (map entry_as all)
  ordered_as [] fits sorted = tt
  ordered_as (entry ∷ all) fits sorted =
      let rises = both (below_all key_cmp entry.0 all) (is_sorted key_cmp all) sorted in
      (below_as entry all fits.0 fits.1 (subst T (sym rises.0) tt), ordered_as all fits.1 rises.1)

  -- the entries of a map in the order of their bytes
  pub map_ordered : (m : FinMap key_cmp X) → AllByRecursion (λ (one : Key × X). AreFit one.0) (entries m) → IsOrdered IsBelow (map entry_as (entries m))
  map_ordered m fits = ordered_as (entries m) fits (entries_sorted m)

  -- a test of bytes that says what one of the entries says
  pub filter_as : (p : IndexEntry → Bool) (q : Key × X → Bool) (all : List (Key × X)) → AllByRecursion (λ (one : Key × X). p (entry_as one) ≡ q one) all
      → filter p (map entry_as all) ≡ map entry_as (filter q all)
  filter_as p q [] same = refl
  filter_as p q (entry ∷ all) same =
      ap (λ b. cond b (entry_as entry ∷ filter p (map entry_as all)) (filter p (map entry_as all))) same.0 ∙ by_test (q entry) (filter_as p q all same.1)
    where
      by_test : (b : Bool) → filter p (map entry_as all) ≡ map entry_as (filter q all)
          → cond b (entry_as entry ∷ filter p (map entry_as all)) (filter p (map entry_as all)) ≡ map entry_as (cond b (entry ∷ filter q all) (filter q all))
      by_test true later = ap (λ l. entry_as entry ∷ l) later
      by_test false later = later
