-- An index that is made tuple by tuple.
use Rattle.std.proofs.Common.{◌≡◌, ℕ, Bool, true, false, cond, ◌&&◌, T, List, [], ◌∷◌, map, length, Option, Some, None, Result, Ok, Err, inl, inr, refl, sym, ap, ◌∙◌, subst, true≢false}
use Rattle.std.specs.Prelude.{◌⊎◌, ◌==◌, is_some, if◌then◌else◌}
use Rattle.std.specs.BTreeMap.{insert_entry}
use Rattle.std.specs.Cmp.{tied_itself}
use Rattle.std.specs.Cmp.Lexicographic.{slice_cmp}
use Rattle.std.specs.FinMap.{empty, entries, entries_sorted, get, get-empty, get-entries, get-insert, insert, same_map}
use Rattle.std.specs.FinMap.Entries.{below_all, find, is_sorted}
use Rattle.std.specs.List.{AllByRecursion}
use Rattle.std.specs.Option.{option_map, option_or}
use Rattle.std.specs.Ordering.{eq_by_cmp, is_eq, is_lt, nat_cmp, ordering_reverse}
use Rattle.mx_msgpack.proofs.Options.{same_some}
use Rattle.mx_key.specs.declared.fault.NoKey.{NoKey}
use Rattle.mx_key.specs.Keys.{Key, AreFit, key_cmp}
use Rattle.mx_key.specs.Comparable.{comparable_of}
use Rattle.mx_key.proofs.KeyLaws.{key_cmp-IsAntisymmetric, key_cmp_total}
use Rattle.mx_schema.specs.declared.index_def.IndexDef.{IndexDef}
use Rattle.mx_schema.specs.Picks.{Indexed, indexed_with, tuples_by_index}
use Rattle.mx_schema.specs.Sound.{AreUnique, HaveKeys}
use Rattle.mx_schema.specs.State.{Tuples, key_in, key_or_none}
use Rattle.mx_schema.specs.Stored.{StoredTuple, StoresTuples, stored_tuple}
use Rattle.mx_schema.proofs.StoredLaws.{each_none, each_put}
use Rattle.mx_schema.proofs.OrderLaws.{both, lt_is}
use Rattle.mx_entries.specs.declared.build_fault.BuildFault.{BuildFault}
use Rattle.mx_entries.specs.declared.build_fault.BuildFault.TheVariants as fault
use Rattle.mx_entries.specs.Builds.{build_fault, build_fault_from, row_fault}
use Rattle.mx_entries.specs.Built.{AreLong, IsBuilt}
use Rattle.mx_entries.specs.Entries.{IndexEntry, with_entry}
use Rattle.mx_entries.specs.KeptEntries.{StoresEntries, kept_entries}
use Rattle.mx_entries.specs.KeptKeys.{kept_key}
use Rattle.mx_entries.proofs.BytesLaws.{stored_entry, stores_more, stores_none}
use Rattle.mx_entries.proofs.EntriesLaws.{entries_with, entry_is_new, none_tied, tied_is, without_entry}
use Rattle.mx_entries.proofs.HolderKeyLaws.{entry_key_is, unique_apart}
use Rattle.mx_entries.proofs.IndexedLaws.{held_is, not_none}
use Rattle.mx_entries.proofs.KeptLaws.{no_kept}

pub none_built : (def : IndexDef) (long : ℕ) (kept : List IndexEntry) → kept ≡ [] → IsBuilt def long empty kept
none_built def long kept none = record {
  keeps = subst (StoresEntries kept) (sym (no_kept def)) (stores_none kept none);
  whole = each_none (λ entry. length entry.0 ≡ long);
  have = each_none (λ entry. (key : Key) × (key_in def.key entry.1 ≡ Ok key));
  unique = λ u one other first second key here there has had. absurd (not_none first (sym here ∙ get-empty key_cmp one));
}

-- a tuple with a new key is put
put_unique : (def : IndexDef) (unique : def.unique ≡ true) (before : Tuples) (one_each : AreUnique def before) (have : HaveKeys def before) (own : Key) (tuple : List ℕ) (key : Key)
    → key_in def.key tuple ≡ Ok key → get (indexed_with def empty (entries before)) key ≡ None → AreUnique def (insert before own tuple)
put_unique def unique before one_each have own tuple key is new one other first second k here there has had =
    by_tests (eq_by_cmp key_cmp one own) refl (eq_by_cmp key_cmp other own) refl
    (sym (get-insert key_cmp_total before own tuple one) ∙ here) (sym (get-insert key_cmp_total before own tuple other) ∙ there)
  where
    -- another tuple hasn't got the key
    taken : (primary : Key) (held : List ℕ) → get before primary ≡ Some held → key_in def.key held ≡ Ok k → k ≡ key → ⊥
    taken primary held at holds same =
        not_none held (sym (held_is def before (unique_apart def unique before one_each have) key primary held at
        (entry_key_is def unique before one_each have primary held ∙ ap key_or_none holds ∙ same)) ∙ new)

    same_key : (x y : Key) → ◌≡◌ {A = Result Key NoKey} (Ok x) (Ok y) → x ≡ y
    same_key x y e = cc

    by_tests : (b : Bool) → eq_by_cmp key_cmp one own ≡ b → (c : Bool) → eq_by_cmp key_cmp other own ≡ c
        → cond b (Some tuple) (get before one) ≡ Some first → cond c (Some tuple) (get before other) ≡ Some second → one ≡ other
    by_tests true tied true also h t = tied_is one own tied ∙ sym (tied_is other own also)
    by_tests true tied false apart h t =
        absurd (taken other second t had (same_key k key (sym has ∙ ap (key_in def.key) (sym (same_some tuple first h)) ∙ is)))
    by_tests false apart true also h t =
        absurd (taken one first h has (same_key k key (sym had ∙ ap (key_in def.key) (sym (same_some tuple second t)) ∙ is)))
    by_tests false apart false other_apart h t = one_each one other first second k h t has had

module _ (def : IndexDef) (long : ℕ) (before : Tuples) (kept : List IndexEntry) (built : IsBuilt def long before kept) (other : (def.id.0 == 0) ≡ false) where
  index_is : tuples_by_index def before ≡ indexed_with def empty (entries before)
  index_is = ap (λ b. if b then before else indexed_with def empty (entries before)) other

  module _ (own : Key) (absent : get before own ≡ None) (is_long : length own ≡ long) (tuple : List ℕ) (key : Key) (is : key_in def.key tuple ≡ Ok key) where
    -- the tuple's entry isn't there yet
    entry_added : AreFit (kept_key def own tuple) → with_entry (comparable_of (kept_key def own tuple)) (comparable_of own) kept
        ≡ insert_entry (slice_cmp nat_cmp) kept (comparable_of (kept_key def own tuple)) (comparable_of own)
    entry_added fit =
        ap (λ o. if is_some o then kept else insert_entry (slice_cmp nat_cmp) kept (comparable_of (kept_key def own tuple)) (comparable_of own))
        (stored_entry (kept_key def own tuple) fit kept (kept_entries def before) built.keeps
        ∙ ap (option_map comparable_of) (entry_is_new def long before built.whole own is_long tuple None absent (λ replaced e. absurd cc)))

    pub one_built : (def.unique ≡ true → false ≡ is_some (get (tuples_by_index def before) key)) → AreFit (kept_key def own tuple)
        → (after : List IndexEntry) → after ≡ with_entry (comparable_of (kept_key def own tuple)) (comparable_of own) kept
        → IsBuilt def long (insert before own tuple) after
    one_built new fit after put_in = record {
      keeps = subst (StoresEntries after)
          (sym (entries_with def long before built.whole own is_long tuple ∙ ap (λ o. insert (without_entry def own o (kept_entries def before)) (kept_key def own tuple) own) absent))
          (subst (λ l. StoresEntries l (insert (kept_entries def before) (kept_key def own tuple) own)) (sym (put_in ∙ entry_added fit))
          (stores_more (kept_key def own tuple) own fit kept (kept_entries def before) built.keeps));
      whole = each_put (λ entry. length entry.0 ≡ long) before own tuple is_long built.whole;
      have = each_put (λ entry. (key : Key) × (key_in def.key entry.1 ≡ Ok key)) before own tuple (key, is) built.have;
      unique = λ u. put_unique def u before (built.unique u) built.have own tuple key is (ap (λ t. get t key) (sym index_is) ∙ none_is (get (tuples_by_index def before) key) (new u));
    }
      where
        none_is : (o : Option (List ℕ)) → false ≡ is_some o → o ≡ None
        none_is None e = refl
        none_is (Some x) e = absurd (true≢false (sym e))

    pub no_row_fault : (def.unique ≡ true → false ≡ is_some (get (tuples_by_index def before) key)) → row_fault def before (key_in def.key tuple) ≡ None
    no_row_fault new = ap (row_fault def before) is ∙ by_test def.unique refl
      where
        by_test : (b : Bool) → def.unique ≡ b → (if def.unique && is_some (get (tuples_by_index def before) key) then Some fault.Duplicate else None) ≡ None
        by_test true u = λ i. if u i && sym (new u) i then Some fault.Duplicate else None
        by_test false u = ap (λ b. if b && is_some (get (tuples_by_index def before) key) then Some fault.Duplicate else None) u

  pub is_duplicate : (tuple : List ℕ) (key : Key) → key_in def.key tuple ≡ Ok key → def.unique ≡ true → true ≡ is_some (get (tuples_by_index def before) key)
      → row_fault def before (key_in def.key tuple) ≡ Some fault.Duplicate
  is_duplicate tuple key is unique held =
      ap (row_fault def before) is
      ∙ (λ i. if unique i && sym held i then Some fault.Duplicate else None)

-- ---- all rows

-- further tuples
abbrev with_all : Tuples → List Indexed → Tuples
with_all before [] = before
with_all before (entry ∷ others) = with_all (insert before entry.0 entry.1) others

none_above : (q : Key) (entry : Indexed) (all : List Indexed) → q ≡ entry.0 → T (below_all key_cmp entry.0 all) → find key_cmp q all ≡ None
none_above q entry all same below = none_tied q entry all (ap (λ k. key_cmp k entry.0) same ∙ tied_itself key_cmp_total entry.0) below

found_among : (q : Key) (all : List Indexed) (before : Tuples) → T (is_sorted key_cmp all) → get (with_all before all) q ≡ option_or (find key_cmp q all) (get before q)
found_among q [] before sorted = refl
found_among q (entry ∷ all) before sorted =
    let rises = both (below_all key_cmp entry.0 all) (is_sorted key_cmp all) sorted in
    found_among q all (insert before entry.0 entry.1) rises.1
    ∙ ap (option_or (find key_cmp q all)) (get-insert key_cmp_total before entry.0 entry.1 q)
    ∙ by_test (eq_by_cmp key_cmp q entry.0) refl (subst T (sym rises.0) tt)
  where
    by_test : (b : Bool) → eq_by_cmp key_cmp q entry.0 ≡ b → T (below_all key_cmp entry.0 all)
        → option_or (find key_cmp q all) (cond b (Some entry.1) (get before q)) ≡ option_or (cond b (Some entry.1) (find key_cmp q all)) (get before q)
    by_test true tied below = ap (λ o. option_or o (Some entry.1)) (none_above q entry all (tied_is q entry.0 tied) below)
    by_test false apart below = refl

all_together : (all : Tuples) → with_all empty (entries all) ≡ all
all_together all =
    same_map key_cmp_total key_cmp-IsAntisymmetric (with_all empty (entries all)) all
    (λ q. found_among q (entries all) empty (entries_sorted all) ∙ by_found (find key_cmp q (entries all)) q (get-empty key_cmp q) ∙ sym (get-entries all q))
  where
    by_found : (o : Option (List ℕ)) (q : Key) → get (empty {X = List ℕ} {R = key_cmp}) q ≡ None → option_or o (get (empty {X = List ℕ} {R = key_cmp}) q) ≡ o
    by_found None q none = none
    by_found (Some x) q none = refl

-- some of the tuples have their entries, and the others are to come
pub record PartBuilt (def : IndexDef) (long : ℕ) (all : Tuples) (kept : List IndexEntry) (left : List StoredTuple) : Type 0 where
  pub so_far : Tuples
  pub others : List Indexed
  pub built : IsBuilt def long so_far kept
  pub fault_is : build_fault def all ≡ build_fault_from def so_far others
  pub together : with_all so_far others ≡ all
  pub to_come : map stored_tuple others ≡ left
  pub fit : AllByRecursion (λ (entry : Indexed). AreFit entry.0) others
  pub whole : AllByRecursion (λ (entry : Indexed). length entry.0 ≡ long) others
  pub absent : AllByRecursion (λ (entry : Indexed). get so_far entry.0 ≡ None) others
  pub sorted : T (is_sorted key_cmp others)

pub none_yet : (def : IndexDef) (long : ℕ) (all : Tuples) (kept : List IndexEntry) (stored left : List StoredTuple) → kept ≡ [] → left ≡ stored → StoresTuples stored all
    → AreLong long all → PartBuilt def long all kept left
none_yet def long all kept stored left none is stores whole = record {
  so_far = empty;
  others = entries all;
  built = none_built def long kept none;
  fault_is = refl;
  together = all_together all;
  to_come = stores.same ∙ sym is;
  fit = stores.fit;
  whole = whole;
  absent = each_absent (entries all);
  sorted = entries_sorted all;
}
  where
    each_absent : (some : List Indexed) → AllByRecursion (λ (entry : Indexed). get (empty {X = List ℕ} {R = key_cmp}) entry.0 ≡ None) some
    each_absent [] = tt
    each_absent (entry ∷ some) = (get-empty key_cmp entry.0, each_absent some)

-- those to come are still absent
absent_after : (entry : Indexed) (before : Tuples) (some : List Indexed) → T (below_all key_cmp entry.0 some) → AllByRecursion (λ (one : Indexed). get before one.0 ≡ None) some
    → AllByRecursion (λ (one : Indexed). get (insert before entry.0 entry.1) one.0 ≡ None) some
absent_after entry before [] below absent = tt
absent_after entry before (next ∷ some) below absent =
    let above = both (is_lt (key_cmp entry.0 next.0)) (below_all key_cmp entry.0 some) below in (
      get-insert key_cmp_total before entry.0 entry.1 next.0
          ∙ ap (λ b. cond b (Some entry.1) (get before next.0)) (ap is_eq (key_cmp_total.antisymm next.0 entry.0 ∙ ap ordering_reverse (lt_is (key_cmp entry.0 next.0) above.0))) ∙ absent.0,
      absent_after entry before some above.1 absent.1,
    )

module _ (def : IndexDef) (long : ℕ) (all : Tuples) (kept : List IndexEntry) (left rest : List StoredTuple) (primary tuple : List ℕ) (next : left ≡ (primary, tuple) ∷ rest) (part : PartBuilt def long all kept left) where
  -- the next row is one of a tuple that is to come
  pub record IsNext : Type 0 where
    pub own : Key
    pub later : List Indexed
    pub others_are : part.others ≡ (own, tuple) ∷ later
    pub own_is : primary ≡ comparable_of own
    pub to_come : map stored_tuple later ≡ rest

  pub next_row : IsNext
  next_row = by_others part.others refl (part.to_come ∙ next)
    where
      by_others : (others : List Indexed) → part.others ≡ others → map stored_tuple others ≡ (primary, tuple) ∷ rest → IsNext
      by_others [] is e = absurd cc
      by_others ((own, one) ∷ later) is e =
          let pair : stored_tuple (own, one) ≡ (primary, tuple) = cc in
          let more : map stored_tuple later ≡ rest = cc in
          let one_is : one ≡ tuple = ap (λ (p : StoredTuple). p.1) pair in
          record {
            own = own;
            later = later;
            others_are = is ∙ ap (λ t. (own, t) ∷ later) one_is;
            own_is = sym (ap (λ (p : StoredTuple). p.0) pair);
            to_come = more;
          }

  pub one_more : (after : List IndexEntry)
      → ((own : Key) → IsBuilt def long part.so_far kept → get part.so_far own ≡ None → length own ≡ long → AreFit own → primary ≡ comparable_of own
      → (row_fault def part.so_far (key_in def.key tuple) ≡ None) × IsBuilt def long (insert part.so_far own tuple) after)
      → PartBuilt def long all after rest
  one_more after adds =
      let row = next_row in
      let fit = subst (AllByRecursion (λ (entry : Indexed). AreFit entry.0)) row.others_are part.fit in
      let whole = subst (AllByRecursion (λ (entry : Indexed). length entry.0 ≡ long)) row.others_are part.whole in
      let absent = subst (AllByRecursion (λ (entry : Indexed). get part.so_far entry.0 ≡ None)) row.others_are part.absent in
      let sorted = subst (λ l. T (is_sorted key_cmp l)) row.others_are part.sorted in
      let rises = both (below_all key_cmp row.own row.later) (is_sorted key_cmp row.later) sorted in
      let added = adds row.own part.built absent.0 whole.0 fit.0 row.own_is in
      record {
        so_far = insert part.so_far row.own tuple;
        others = row.later;
        built = added.1;
        fault_is = part.fault_is ∙ ap (build_fault_from def part.so_far) row.others_are
            ∙ ap (λ o. option_or o (build_fault_from def (insert part.so_far row.own tuple) row.later)) added.0;
        together = ap (with_all part.so_far) (sym row.others_are) ∙ part.together;
        to_come = row.to_come;
        fit = fit.1;
        whole = whole.1;
        absent = absent_after (row.own, tuple) part.so_far row.later (subst T (sym rises.0) tt) absent.1;
        sorted = rises.1;
      }

  pub row_refused : (why : BuildFault)
      → ((own : Key) → IsBuilt def long part.so_far kept → get part.so_far own ≡ None → length own ≡ long → AreFit own → primary ≡ comparable_of own
      → (row_fault def part.so_far (key_in def.key tuple) ≡ Some why) ⊎ (why ≡ fault.NoMemory))
      → (build_fault def all ≡ Some why) ⊎ (why ≡ fault.NoMemory)
  row_refused why refuses =
      let row = next_row in
      let fit = subst (AllByRecursion (λ (entry : Indexed). AreFit entry.0)) row.others_are part.fit in
      let whole = subst (AllByRecursion (λ (entry : Indexed). length entry.0 ≡ long)) row.others_are part.whole in
      let absent = subst (AllByRecursion (λ (entry : Indexed). get part.so_far entry.0 ≡ None)) row.others_are part.absent in
      by_case row (refuses row.own part.built absent.0 whole.0 fit.0 row.own_is)
    where
      by_case : (row : IsNext) → (row_fault def part.so_far (key_in def.key tuple) ≡ Some why) ⊎ (why ≡ fault.NoMemory) → (build_fault def all ≡ Some why) ⊎ (why ≡ fault.NoMemory)
      by_case row (inl found) =
          inl (part.fault_is ∙ ap (build_fault_from def part.so_far) row.others_are
          ∙ ap (λ o. option_or o (build_fault_from def (insert part.so_far row.own tuple) row.later)) found)
      by_case row (inr memory) = inr memory

-- all of them have
pub all_built : (def : IndexDef) (long : ℕ) (all : Tuples) (kept : List IndexEntry) (left : List StoredTuple) → left ≡ [] → PartBuilt def long all kept left
    → (build_fault def all ≡ None) × StoresEntries kept (kept_entries def all)
all_built def long all kept left over part = by_others part.others refl (part.to_come ∙ over)
  where
    by_others : (others : List Indexed) → part.others ≡ others → map stored_tuple others ≡ [] → (build_fault def all ≡ None) × StoresEntries kept (kept_entries def all)
    by_others [] is none =
        let same : part.so_far ≡ all = ap (with_all part.so_far) (sym is) ∙ part.together in
        (part.fault_is ∙ ap (build_fault_from def part.so_far) is, subst (λ t. StoresEntries kept (kept_entries def t)) same part.built.keeps)
    by_others (entry ∷ others) is none = absurd cc

-- ---- what an index that can be made has

-- each tuple has a key, and in a unique index it has it alone
abbrev AreInIndex : IndexDef → Tuples → Type 0
AreInIndex def tuples = HaveKeys def tuples × (def.unique ≡ true → AreUnique def tuples)

module _ (def : IndexDef) (other : (def.id.0 == 0) ≡ false) where
  both_none : {X : Type 0} (one rest : Option X) → option_or one rest ≡ None → (one ≡ None) × (rest ≡ None)
  both_none None rest e = (refl, e)
  both_none (Some x) rest e = absurd cc

  none_held : (b : Bool) (held : Option (List ℕ)) → b ≡ true → (if b && is_some held then Some fault.Duplicate else None) ≡ None → held ≡ None
  none_held true None u e = refl
  none_held true (Some x) u e = absurd cc
  none_held false held u e = absurd cc

  one_more_in : (before : Tuples) (entry : Indexed) (read : Result Key NoKey) → key_in def.key entry.1 ≡ read → AreInIndex def before → row_fault def before read ≡ None
      → AreInIndex def (insert before entry.0 entry.1)
  one_more_in before entry (Err why) is are e = absurd cc
  one_more_in before entry (Ok key) is (have, alone) e = (
    each_put (λ row. (k : Key) × (key_in def.key row.1 ≡ Ok k)) before entry.0 entry.1 (key, is) have,
    λ u. put_unique def u before (alone u) have entry.0 entry.1 key is
        (ap (λ (t : Tuples). get t key) (sym (ap (λ b. if b then before else indexed_with def empty (entries before)) other))
        ∙ none_held def.unique (get (tuples_by_index def before) key) u e),
  )

  all_in : (before : Tuples) (others : List Indexed) → AreInIndex def before → build_fault_from def before others ≡ None → AreInIndex def (with_all before others)
  all_in before [] are e = are
  all_in before (entry ∷ others) are e =
      let (first, later) = both_none (row_fault def before (key_in def.key entry.1)) (build_fault_from def (insert before entry.0 entry.1) others) e in
      all_in (insert before entry.0 entry.1) others (one_more_in before entry (key_in def.key entry.1) refl are first) later

  pub built_has : (tuples : Tuples) → build_fault def tuples ≡ None → AreInIndex def tuples
  built_has tuples e =
      subst (AreInIndex def) (all_together tuples) (all_in empty (entries tuples) (
        each_none (λ row. (k : Key) × (key_in def.key row.1 ≡ Ok k)),
        λ u one other first second key here there has had. absurd (not_none first (sym here ∙ get-empty key_cmp one)),
      ) e)
