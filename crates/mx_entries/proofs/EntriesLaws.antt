-- What one tuple more and one less make of an index's entries.
use Rattle.std.proofs.Common.{◌≡◌, ℕ, ◌+◌, ◌-◌, Bool, true, false, cond, T, List, [], ◌∷◌, ◌++◌, map, length, drop, Option, Some, None, refl, sym, ap, ◌∙◌, subst, arith}
use Rattle.std.specs.declared.cmp.Ordering.{Ordering}
use Rattle.std.specs.declared.cmp.Ordering.TheVariants.{Less, Equal, Greater}
use Rattle.std.specs.Cmp.{tied_itself}
use Rattle.std.specs.FinMap.{FinMap, entries, entries_sorted, get, get-entries, get-from_entries, get-insert, get-remove, insert, remove, same_map}
use Rattle.std.specs.FinMap.Entries.{below_all, find, is_sorted}
use Rattle.std.specs.List.{AllByRecursion}
use Rattle.std.specs.Ordering.{eq_by_cmp, is_eq, is_lt}
use Rattle.std.proofs.lemmas.List.{drop_at, length-append}
use Rattle.mx_msgpack.proofs.Options.{same_some}
use Rattle.mx_key.specs.Keys.{Key, key_cmp}
use Rattle.mx_key.proofs.KeyLaws.{key_cmp-IsAntisymmetric, key_cmp_total}
use Rattle.mx_schema.specs.declared.index_def.IndexDef.{IndexDef}
use Rattle.mx_schema.specs.Picks.{Indexed}
use Rattle.mx_schema.specs.State.{Tuples, key_in, key_or_none}
use Rattle.mx_schema.proofs.StoredLaws.{each_put}
use Rattle.mx_schema.proofs.TakenLaws.{each_left}
use Rattle.mx_schema.proofs.OrderLaws.{both, lt_is}
use Rattle.mx_entries.specs.Built.{AreLong}
use Rattle.mx_entries.specs.KeptEntries.{kept_entries, kept_entry}
use Rattle.mx_entries.specs.KeptKeys.{kept_key}

-- ---- keys whose last parts are a primary key

-- as many parts as a primary key has, the last ones of a key
abbrev pub primary_in : (long : ℕ) → Key → Key
primary_in long key = drop (length key - long) key

pub primary_behind : (parts primary : Key) (long : ℕ) → length primary ≡ long → primary_in long (parts ++ primary) ≡ primary
primary_behind parts primary long is =
    let all : length (parts ++ primary) ≡ length parts + length primary = length-append parts primary in
    drop_at parts primary (length (parts ++ primary) - long) (omega arith)

eq_is : (o : Ordering) → is_eq o ≡ true → o ≡ Equal
eq_is Less e = absurd cc
eq_is Equal e = refl
eq_is Greater e = absurd cc

pub tied_is : (one other : Key) → eq_by_cmp key_cmp one other ≡ true → one ≡ other
tied_is one other tied = key_cmp-IsAntisymmetric one other (eq_is (key_cmp one other) tied)

pub ties_itself : (one other : Key) → one ≡ other → eq_by_cmp key_cmp one other ≡ true
ties_itself one other same = ap (λ k. eq_by_cmp key_cmp k other) same ∙ ap is_eq (tied_itself key_cmp_total other)

-- no further key ties with one that ties with the first
pub none_tied : (key : Key) (entry : Indexed) (all : List Indexed) → key_cmp key entry.0 ≡ Equal → T (below_all key_cmp entry.0 all) → find key_cmp key all ≡ None
none_tied key entry [] tied below = refl
none_tied key entry (next ∷ all) tied below =
    let above = both (is_lt (key_cmp entry.0 next.0)) (below_all key_cmp entry.0 all) below in
    let less = key_cmp_total.congr key entry.0 next.0 tied ∙ lt_is (key_cmp entry.0 next.0) above.0 in
    ap (λ (o : Ordering). cond (is_eq o) (Some next.1) (find key_cmp key all)) less ∙ none_tied key entry all tied above.1

-- the entries without that of a tuple, where it is there
abbrev pub without_entry : IndexDef → (primary : Key) → (tuple : Option (List ℕ)) → FinMap key_cmp Key → FinMap key_cmp Key
without_entry def primary None all = all
without_entry def primary (Some tuple) all = remove all (kept_key def primary tuple)

module _ (def : IndexDef) (long : ℕ) where
  -- the primary key in a key, where its tuple's entry has that key
  abbrev pub by_tuple : (key : Key) → Option (List ℕ) → Option Key
  by_tuple key None = None
  by_tuple key (Some tuple) = cond (eq_by_cmp key_cmp key (kept_key def (primary_in long key) tuple)) (Some (primary_in long key)) None

  primary_of_entry : (key primary : Key) (tuple : List ℕ) → length primary ≡ long → eq_by_cmp key_cmp key (kept_key def primary tuple) ≡ true → primary_in long key ≡ primary
  primary_of_entry key primary tuple is tied =
      ap (primary_in long) (tied_is key (kept_key def primary tuple) tied) ∙ primary_behind (key_or_none (key_in def.key tuple)) primary long is

  not_its_entry : (key primary : Key) (tuple : List ℕ) → length primary ≡ long → eq_by_cmp key_cmp (primary_in long key) primary ≡ false
      → eq_by_cmp key_cmp key (kept_key def primary tuple) ≡ false
  not_its_entry key primary tuple is apart = by_test (eq_by_cmp key_cmp key (kept_key def primary tuple)) refl
    where
      by_test : (b : Bool) → eq_by_cmp key_cmp key (kept_key def primary tuple) ≡ b → b ≡ false
      by_test true tied = sym (ties_itself (primary_in long key) primary (primary_of_entry key primary tuple is tied)) ∙ apart
      by_test false tied = refl

  module _ (key : Key) where
    found_kept : (all : List Indexed) → T (is_sorted key_cmp all) → AllByRecursion (λ (entry : Indexed). length entry.0 ≡ long) all
        → find key_cmp key (map (kept_entry def) all) ≡ by_tuple key (find key_cmp (primary_in long key) all)
    found_kept [] sorted whole = refl
    found_kept (entry ∷ all) sorted whole =
        let rises = both (below_all key_cmp entry.0 all) (is_sorted key_cmp all) sorted in
        by_order_of (key_cmp (primary_in long key) entry.0) refl (found_kept all rises.1 whole.1) (subst T (sym rises.0) tt)
      where
        apart : (o : Ordering) → key_cmp (primary_in long key) entry.0 ≡ o → is_eq o ≡ false
            → find key_cmp key (map (kept_entry def) (entry ∷ all)) ≡ find key_cmp key (map (kept_entry def) all)
        apart o is other =
            ap (λ b. cond b (Some entry.0) (find key_cmp key (map (kept_entry def) all)))
            (not_its_entry key entry.0 entry.1 whole.0 (ap is_eq is ∙ other))

        by_order_of : (o : Ordering) → key_cmp (primary_in long key) entry.0 ≡ o
            → find key_cmp key (map (kept_entry def) all) ≡ by_tuple key (find key_cmp (primary_in long key) all)
            → T (below_all key_cmp entry.0 all)
            → find key_cmp key (map (kept_entry def) (entry ∷ all)) ≡ by_tuple key (cond (is_eq o) (Some entry.1) (find key_cmp (primary_in long key) all))
        by_order_of Less is others below = apart Less is refl ∙ others
        by_order_of Equal is others below =
            ap (cond (eq_by_cmp key_cmp key (kept_key def entry.0 entry.1)) (Some entry.0)) (others ∙ ap (by_tuple key) (none_tied (primary_in long key) entry all is below))
            ∙ ap (λ k. cond (eq_by_cmp key_cmp key (kept_key def k entry.1)) (Some k) None) (sym (key_cmp-IsAntisymmetric (primary_in long key) entry.0 is))
        by_order_of Greater is others below = apart Greater is refl ∙ others

    -- what stands under a key is the primary key in it, where that key's tuple has this entry
    pub kept_found : (tuples : Tuples) → AreLong long tuples → get (kept_entries def tuples) key ≡ by_tuple key (get tuples (primary_in long key))
    kept_found tuples whole =
        get-from_entries key_cmp_total (map (kept_entry def) (entries tuples)) key ∙ found_kept (entries tuples) (entries_sorted tuples) whole
        ∙ ap (by_tuple key) (sym (get-entries tuples (primary_in long key)))

  module _ (tuples : Tuples) (whole : AreLong long tuples) (primary : Key) (is : length primary ≡ long) where
    -- the entries without that of the tuple under the primary key
    abbrev others : FinMap key_cmp Key
    others = without_entry def primary (get tuples primary) (kept_entries def tuples)

    twice : (b : Bool) (x : Key) → cond b None (cond b (Some x) None) ≡ None
    twice true x = refl
    twice false x = refl

    found_without : (key : Key) (old : Option (List ℕ)) → get tuples primary ≡ old
        → get (without_entry def primary old (kept_entries def tuples)) key ≡ by_tuple key (cond (eq_by_cmp key_cmp (primary_in long key) primary) None (get tuples (primary_in long key)))
    found_without key old there = by_old old there
      where
        own : Key
        own = primary_in long key

        by_old : (old : Option (List ℕ)) → get tuples primary ≡ old
            → get (without_entry def primary old (kept_entries def tuples)) key ≡ by_tuple key (cond (eq_by_cmp key_cmp own primary) None (get tuples own))
        by_old None there = kept_found key tuples whole ∙ by_test (eq_by_cmp key_cmp own primary) refl
          where
            by_test : (b : Bool) → eq_by_cmp key_cmp own primary ≡ b → by_tuple key (get tuples own) ≡ by_tuple key (cond b None (get tuples own))
            by_test true tied = ap (by_tuple key) (ap (get tuples) (tied_is own primary tied) ∙ there)
            by_test false apart = refl
        by_old (Some tuple) there =
            get-remove key_cmp_total (kept_entries def tuples) (kept_key def primary tuple) key
            ∙ ap (cond (eq_by_cmp key_cmp key (kept_key def primary tuple)) None) (kept_found key tuples whole)
            ∙ by_test (eq_by_cmp key_cmp own primary) refl
          where
            by_test : (b : Bool) → eq_by_cmp key_cmp own primary ≡ b
                → cond (eq_by_cmp key_cmp key (kept_key def primary tuple)) None (by_tuple key (get tuples own)) ≡ by_tuple key (cond b None (get tuples own))
            by_test true tied =
                let same = tied_is own primary tied in
                ap (λ o. cond (eq_by_cmp key_cmp key (kept_key def primary tuple)) None (by_tuple key o)) (ap (get tuples) same ∙ there)
                ∙ ap (λ k. cond (eq_by_cmp key_cmp key (kept_key def k tuple)) None (cond (eq_by_cmp key_cmp key (kept_key def own tuple)) (Some own) None)) (sym same)
                ∙ twice (eq_by_cmp key_cmp key (kept_key def own tuple)) own
            by_test false apart =
                ap (λ b. cond b None (by_tuple key (get tuples own))) (not_its_entry key primary tuple is apart)

    -- a tuple less
    pub entries_without : kept_entries def (remove tuples primary) ≡ others
    entries_without =
        same_map key_cmp_total key_cmp-IsAntisymmetric (kept_entries def (remove tuples primary)) others
        (λ key. kept_found key (remove tuples primary) (each_left primary (λ (entry : Indexed). length entry.0 ≡ long) tuples whole)
        ∙ ap (by_tuple key) (get-remove key_cmp_total tuples primary (primary_in long key))
        ∙ sym (found_without key (get tuples primary) refl))

    -- a tuple more, in the place of the one that is there
    pub entries_with : (tuple : List ℕ) → kept_entries def (insert tuples primary tuple) ≡ insert others (kept_key def primary tuple) primary
    entries_with tuple =
        same_map key_cmp_total key_cmp-IsAntisymmetric (kept_entries def (insert tuples primary tuple)) (insert others (kept_key def primary tuple) primary)
        (λ key. kept_found key (insert tuples primary tuple) (each_put (λ (entry : Indexed). length entry.0 ≡ long) tuples primary tuple is whole)
        ∙ ap (by_tuple key) (get-insert key_cmp_total tuples primary tuple (primary_in long key))
        ∙ by_test key (eq_by_cmp key_cmp (primary_in long key) primary) refl
        ∙ ap (cond (eq_by_cmp key_cmp key (kept_key def primary tuple)) (Some primary)) (sym (found_without key (get tuples primary) refl))
        ∙ sym (get-insert key_cmp_total others (kept_key def primary tuple) primary key))
      where
        by_test : (key : Key) (b : Bool) → eq_by_cmp key_cmp (primary_in long key) primary ≡ b
            → by_tuple key (cond b (Some tuple) (get tuples (primary_in long key)))
            ≡ cond (eq_by_cmp key_cmp key (kept_key def primary tuple)) (Some primary) (by_tuple key (cond (eq_by_cmp key_cmp (primary_in long key) primary) None (get tuples (primary_in long key))))
        by_test key true tied =
            ap (λ k. cond (eq_by_cmp key_cmp key (kept_key def k tuple)) (Some k) None) (tied_is (primary_in long key) primary tied)
            ∙ ap (λ b. cond (eq_by_cmp key_cmp key (kept_key def primary tuple)) (Some primary) (by_tuple key (cond b None (get tuples (primary_in long key))))) (sym tied)
        by_test key false apart =
            ap (λ b. cond b (Some primary) (by_tuple key (get tuples (primary_in long key)))) (sym (not_its_entry key primary tuple is apart))
            ∙ ap (λ b. cond (eq_by_cmp key_cmp key (kept_key def primary tuple)) (Some primary) (by_tuple key (cond b None (get tuples (primary_in long key))))) (sym apart)

    -- the entry of a tuple is new where no tuple has its primary key, or the one that has stands under another
    pub entry_is_new : (tuple : List ℕ) (old : Option (List ℕ)) → get tuples primary ≡ old
        → ((replaced : List ℕ) → old ≡ Some replaced → eq_by_cmp key_cmp (kept_key def primary tuple) (kept_key def primary replaced) ≡ false)
        → get (kept_entries def tuples) (kept_key def primary tuple) ≡ None
    entry_is_new tuple old there apart =
        let own : primary_in long (kept_key def primary tuple) ≡ primary = primary_behind (key_or_none (key_in def.key tuple)) primary long is in
        kept_found (kept_key def primary tuple) tuples whole ∙ ap (by_tuple (kept_key def primary tuple)) (ap (get tuples) own ∙ there) ∙ by_old old apart own
      where
        by_old : (old : Option (List ℕ))
            → ((replaced : List ℕ) → old ≡ Some replaced → eq_by_cmp key_cmp (kept_key def primary tuple) (kept_key def primary replaced) ≡ false)
            → primary_in long (kept_key def primary tuple) ≡ primary
            → by_tuple (kept_key def primary tuple) old ≡ None
        by_old None apart own = refl
        by_old (Some replaced) apart own =
            ap (λ k. cond (eq_by_cmp key_cmp (kept_key def primary tuple) (kept_key def k replaced)) (Some k) None) own
            ∙ ap (λ b. cond b (Some primary) None) (apart replaced refl)

    -- a tuple with the same entry as the one that is there
    pub same_entry : (tuple old : List ℕ) → get tuples primary ≡ Some old → kept_key def primary tuple ≡ kept_key def primary old
        → kept_entries def (insert tuples primary tuple) ≡ kept_entries def tuples
    same_entry tuple old there same =
        same_map key_cmp_total key_cmp-IsAntisymmetric (kept_entries def (insert tuples primary tuple)) (kept_entries def tuples)
        (λ key. kept_found key (insert tuples primary tuple) (each_put (λ (entry : Indexed). length entry.0 ≡ long) tuples primary tuple is whole)
        ∙ ap (by_tuple key) (get-insert key_cmp_total tuples primary tuple (primary_in long key))
        ∙ by_test key (eq_by_cmp key_cmp (primary_in long key) primary) refl
        ∙ sym (kept_found key tuples whole))
      where
        by_test : (key : Key) (b : Bool) → eq_by_cmp key_cmp (primary_in long key) primary ≡ b
            → by_tuple key (cond b (Some tuple) (get tuples (primary_in long key))) ≡ by_tuple key (get tuples (primary_in long key))
        by_test key true tied =
            let own : primary_in long key ≡ primary = tied_is (primary_in long key) primary tied in
            let one : kept_key def (primary_in long key) tuple ≡ kept_key def (primary_in long key) old =
            subst (λ k. kept_key def k tuple ≡ kept_key def k old) (sym own) same in
            ap (λ k. cond (eq_by_cmp key_cmp key k) (Some (primary_in long key)) None) one
            ∙ ap (by_tuple key) (sym (ap (get tuples) own ∙ there))
        by_test key false apart = refl

  -- an entry is that of a tuple
  pub entry_is_of : (tuples : Tuples) → AreLong long tuples → (key primary : Key) → get (kept_entries def tuples) key ≡ Some primary
      → (tuple : List ℕ) × (get tuples primary ≡ Some tuple) × (key ≡ kept_key def primary tuple)
  entry_is_of tuples whole key primary there = by_found (get tuples (primary_in long key)) refl (sym (kept_found key tuples whole) ∙ there)
    where
      by_found : (found : Option (List ℕ)) → get tuples (primary_in long key) ≡ found → by_tuple key found ≡ Some primary
          → (tuple : List ℕ) × (get tuples primary ≡ Some tuple) × (key ≡ kept_key def primary tuple)
      by_found None is e = absurd cc
      by_found (Some tuple) is e = by_test (eq_by_cmp key_cmp key (kept_key def (primary_in long key) tuple)) refl e
        where
          by_test : (b : Bool) → eq_by_cmp key_cmp key (kept_key def (primary_in long key) tuple) ≡ b → cond b (Some (primary_in long key)) None ≡ Some primary
              → (tuple : List ℕ) × (get tuples primary ≡ Some tuple) × (key ≡ kept_key def primary tuple)
          by_test true tied e =
              let own : primary_in long key ≡ primary = same_some (primary_in long key) primary e in
              (tuple, ap (get tuples) (sym own) ∙ is, tied_is key (kept_key def (primary_in long key) tuple) tied ∙ ap (λ k. kept_key def k tuple) own)
          by_test false apart e = absurd cc

  -- a tuple has its entry
  pub entry_there : (tuples : Tuples) → AreLong long tuples → (primary : Key) (tuple : List ℕ) → length primary ≡ long → get tuples primary ≡ Some tuple
      → get (kept_entries def tuples) (kept_key def primary tuple) ≡ Some primary
  entry_there tuples whole primary tuple is there =
      let key = kept_key def primary tuple in
      let own : primary_in long key ≡ primary = primary_behind (key_or_none (key_in def.key tuple)) primary long is in
      kept_found key tuples whole ∙ ap (by_tuple key) (ap (get tuples) own ∙ there)
      ∙ ap (λ k. cond (eq_by_cmp key_cmp key (kept_key def k tuple)) (Some k) None) own
      ∙ ap (λ b. cond b (Some primary) None) (ties_itself key key refl)
