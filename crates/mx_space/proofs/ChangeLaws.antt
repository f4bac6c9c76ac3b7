-- What a write makes of the entries that are kept of each index.
use Rattle.std.proofs.Common.{◌≡◌, ℕ, suc, Bool, true, false, cond, List, [], ◌∷◌, length, Option, Some, None, refl, sym, ap, ◌∙◌, arith, inl, inr, subst}
use Rattle.std.specs.declared.cmp.Ordering.{Ordering}
use Rattle.std.specs.declared.cmp.Ordering.TheVariants.{Less, Equal, Greater}
use Rattle.std.specs.BTreeMap.{insert_entry, is_at}
use Rattle.std.specs.Cmp.Lexicographic.{slice_cmp}
use Rattle.std.specs.Map.{keys_of, lookup, remove_entry, set_value}
use Rattle.std.specs.Ordering.{is_eq, match_ordering, nat_cmp, eq_by_cmp}
use Rattle.std.specs.Prelude.{◌==◌}
use Rattle.std.specs.FinMap.{get, insert, remove}
use Rattle.std.specs.List.{AllZip}
use Rattle.mx_key.specs.Keys.{Key, AreFit, key_cmp}
use Rattle.mx_key.specs.Comparable.{comparable_of}
use Rattle.mx_msgpack.proofs.Options.{same_some}
use Rattle.mx_schema.specs.State.{Tuples}
use Rattle.mx_schema.specs.Stored.{StoredTuple, StoresTuples}
use Rattle.mx_schema.proofs.StoredLaws.{stores_put}
use Rattle.mx_space.specs.Reserved.{with_coming_tuple, with_put}
use Rattle.mx_entries.proofs.BytesLaws.{taken_back, one_by_bytes, stores_added, stores_less}
use Rattle.mx_schema.specs.declared.index_def.IndexDef.{IndexDef}
use Rattle.mx_space.specs.declared.change.Change.{Change}
use Rattle.mx_space.specs.Changes.{AddsEntry, IsNoChange, Puts, PutsByNumber, RemovesByNumber, Removes, all_changed, all_without, changed}
use Rattle.mx_entries.specs.EntryChanges.{with_added, without_key}
use Rattle.mx_entries.specs.Entries.{IndexEntry}
use Rattle.mx_entries.specs.Built.{AreLong}
use Rattle.mx_entries.specs.KeptEntries.{StoresByNumber, StoresEntries, StoresIndex, kept_entries}
use Rattle.mx_entries.specs.KeptKeys.{kept_key}
use Rattle.mx_entries.proofs.EntriesLaws.{entries_with, entries_without, entry_is_new, same_entry, without_entry}
use Rattle.mx_entries.proofs.KeyMapLaws.{left_apart, untied}

-- ---- a tuple that is put among those of a space, and taken back, as bytes

-- nothing is set where nothing stands
pub not_set : (kept : List StoredTuple) (key tuple : List ℕ) → lookup (is_at (slice_cmp nat_cmp key)) kept ≡ None → kept ≡ set_value (is_at (slice_cmp nat_cmp key)) kept tuple
not_set [] key tuple none = refl
not_set (entry ∷ kept) key tuple none = by_test (is_at (slice_cmp nat_cmp key) entry.0) none (not_set kept key tuple)
  where
    by_test : (b : Bool) → cond b (Some entry.1) (lookup (is_at (slice_cmp nat_cmp key)) kept) ≡ None
        → (lookup (is_at (slice_cmp nat_cmp key)) kept ≡ None → kept ≡ set_value (is_at (slice_cmp nat_cmp key)) kept tuple)
        → entry ∷ kept ≡ cond b ((entry.0, tuple) ∷ kept) (entry ∷ set_value (is_at (slice_cmp nat_cmp key)) kept tuple)
    by_test true none later = absurd cc
    by_test false none later = ap (λ l. entry ∷ l) (later none)

abbrev tail_of : List (List ℕ) → List (List ℕ)
tail_of [] = []
tail_of (key ∷ keys) = keys

-- a tuple that took the place of another one gives it back
set_again : (kept : List StoredTuple) (key tuple old : List ℕ) → keys_of (insert_entry (slice_cmp nat_cmp) kept key tuple) ≡ keys_of kept
    → lookup (is_at (slice_cmp nat_cmp key)) kept ≡ Some old → set_value (is_at (slice_cmp nat_cmp key)) (insert_entry (slice_cmp nat_cmp) kept key tuple) old ≡ kept
set_again [] key tuple old keys there = absurd cc
set_again (entry ∷ kept) key tuple old keys there = by_order_of (slice_cmp nat_cmp key entry.0) refl keys there (set_again kept key tuple old)
  where
    at : List ℕ → Bool
    at = is_at (slice_cmp nat_cmp key)

    with_tuple : Ordering → List StoredTuple
    with_tuple o = match_ordering o ((key, tuple) ∷ entry ∷ kept) ((entry.0, tuple) ∷ kept) (entry ∷ insert_entry (slice_cmp nat_cmp) kept key tuple)

    by_order_of : (o : Ordering) → slice_cmp nat_cmp key entry.0 ≡ o → keys_of (with_tuple o) ≡ keys_of (entry ∷ kept) → cond (is_eq o) (Some entry.1) (lookup at kept) ≡ Some old
        → (keys_of (insert_entry (slice_cmp nat_cmp) kept key tuple) ≡ keys_of kept → lookup at kept ≡ Some old → set_value at (insert_entry (slice_cmp nat_cmp) kept key tuple) old ≡ kept)
        → set_value at (with_tuple o) old ≡ entry ∷ kept
    by_order_of Less is keys there later =
        let more : suc (suc (length (keys_of kept))) ≡ suc (length (keys_of kept)) = ap length keys in
        absurd (omega (arith, more))
    by_order_of Equal is keys there later =
        ap (λ o. cond (is_eq o) ((entry.0, old) ∷ kept) ((entry.0, tuple) ∷ set_value at kept old)) is ∙ ap (λ t. (entry.0, t) ∷ kept) (sym (same_some entry.1 old there))
    by_order_of Greater is keys there later =
        ap (λ o. cond (is_eq o) ((entry.0, old) ∷ insert_entry (slice_cmp nat_cmp) kept key tuple) (entry ∷ set_value at (insert_entry (slice_cmp nat_cmp) kept key tuple) old)) is
        ∙ ap (λ l. entry ∷ l) (later (ap tail_of keys) there)

module _ (kept now : List StoredTuple) (key copy tuple : List ℕ) (put : now ≡ insert_entry (slice_cmp nat_cmp) kept copy tuple) (same : copy ≡ key) where
  abbrev put_so : now ≡ insert_entry (slice_cmp nat_cmp) kept key tuple
  put_so = put ∙ ap (λ k. insert_entry (slice_cmp nat_cmp) kept k tuple) same

  -- one that was put under a new key is taken out again
  pub insertion_undone : lookup (is_at (slice_cmp nat_cmp copy)) kept ≡ None → remove_entry (is_at (slice_cmp nat_cmp key)) now ≡ kept
  insertion_undone none =
      ap (remove_entry (is_at (slice_cmp nat_cmp key))) put_so ∙ taken_back kept key tuple (ap (λ k. lookup (is_at (slice_cmp nat_cmp k)) kept) (sym same) ∙ none)

  -- one that was put in the place of another gives it back
  pub replacement_undone : (old : List ℕ) → keys_of now ≡ keys_of kept → lookup (is_at (slice_cmp nat_cmp copy)) kept ≡ Some old → set_value (is_at (slice_cmp nat_cmp key)) now old ≡ kept
  replacement_undone old keys there =
      ap (λ l. set_value (is_at (slice_cmp nat_cmp key)) l old) put_so
      ∙ set_again kept key tuple old (ap keys_of (sym put_so) ∙ keys) (ap (λ k. lookup (is_at (slice_cmp nat_cmp k)) kept) (sym same) ∙ there)

-- ---- tuples of a map

-- a tuple is put under a key
pub put_stored : (kept : List StoredTuple) (all : Tuples) (key : Key) (tuple : Option (List ℕ)) (bytes : List ℕ) → StoresTuples kept all → AreFit key → bytes ≡ comparable_of key
    → StoresTuples (with_put tuple bytes kept) (with_coming_tuple (key, tuple) all)
put_stored kept all key None bytes keeps fit is = keeps
put_stored kept all key (Some tuple) bytes keeps fit is = stores_put kept (insert_entry (slice_cmp nat_cmp) kept bytes tuple) all key bytes tuple keeps fit is refl

-- ---- what a write makes of the entries that are kept of each index

-- nothing changes
unchanged : (bytes : List ℕ) (change : Change) (kept : List IndexEntry) → IsNoChange change → changed bytes change kept ≡ kept
unchanged bytes change kept none =
    ap (λ r. without_key r (with_added change.added bytes kept)) none.removed ∙ ap (λ a. with_added a bytes kept) none.added

module _ (tuples : Tuples) (long : ℕ) (whole : AreLong long tuples) (primary : Key) (is : length primary ≡ long) where
  abbrev bytes : List ℕ
  bytes = comparable_of primary

  module _ (def : IndexDef) where
    module _ (tuple : List ℕ) where
      -- the entries with that of the tuple
      added_to : (change : Change) (kept : List IndexEntry) → AddsEntry def primary tuple change → StoresEntries kept (kept_entries def tuples)
          → get (kept_entries def tuples) (kept_key def primary tuple) ≡ None
          → StoresEntries (with_added change.added bytes kept) (insert (kept_entries def tuples) (kept_key def primary tuple) primary)
      added_to change kept adds keeps new = stores_added (kept_key def primary tuple) primary change.added adds.fit adds.added kept (kept_entries def tuples) keeps new

      put_one : (kept : List IndexEntry) (change : Change) (old : Option (List ℕ)) → get tuples primary ≡ old → PutsByNumber false def primary tuple old change
          → StoresEntries kept (kept_entries def tuples) → StoresEntries (changed bytes change kept) (kept_entries def (insert tuples primary tuple))
      put_one kept change None there (adds, no_other) keeps =
          let new : kept_entries def (insert tuples primary tuple) ≡ insert (kept_entries def tuples) (kept_key def primary tuple) primary =
          entries_with def long tuples whole primary is tuple ∙ ap (λ o. insert (without_entry def primary o (kept_entries def tuples)) (kept_key def primary tuple) primary) there in
          subst (λ r. StoresEntries (without_key r (with_added change.added bytes kept)) (kept_entries def (insert tuples primary tuple))) (sym no_other)
          (subst (StoresEntries (with_added change.added bytes kept)) (sym new)
          (added_to change kept adds keeps (entry_is_new def long tuples whole primary is tuple None there (λ replaced e. absurd cc))))
      put_one kept change (Some old) there (inl (none, one)) keeps =
          let same : kept_key def primary tuple ≡ kept_key def primary old = one_by_bytes (kept_key def primary tuple) (kept_key def primary old) one.fit one.fits one.same in
          subst (λ k. StoresEntries k (kept_entries def (insert tuples primary tuple))) (sym (unchanged bytes change kept none))
          (subst (StoresEntries kept) (sym (same_entry def long tuples whole primary is tuple old there same)) keeps)
      put_one kept change (Some old) there (inr (adds, removes, apart)) keeps =
          let new_key = kept_key def primary tuple in
          let old_key = kept_key def primary old in
          let other : eq_by_cmp key_cmp new_key old_key ≡ false = untied new_key old_key (λ same. apart (ap comparable_of (sym same))) in
          let new : kept_entries def (insert tuples primary tuple) ≡ remove (insert (kept_entries def tuples) new_key primary) old_key =
          entries_with def long tuples whole primary is tuple ∙ ap (λ o. insert (without_entry def primary o (kept_entries def tuples)) new_key primary) there
          ∙ sym (left_apart (kept_entries def tuples) new_key old_key primary other) in
          let fresh = entry_is_new def long tuples whole primary is tuple (Some old) there
          (λ replaced e. subst (λ o. eq_by_cmp key_cmp new_key (kept_key def primary o) ≡ false) (same_some old replaced e) other) in
          subst (λ r. StoresEntries (without_key r (with_added change.added bytes kept)) (kept_entries def (insert tuples primary tuple))) (sym removes.key_is)
          (subst (StoresEntries (without_key (Some (comparable_of old_key)) (with_added change.added bytes kept))) (sym new)
          (stores_less old_key removes.fit (with_added change.added bytes kept) (insert (kept_entries def tuples) new_key primary) (added_to change kept adds keeps fresh)))

      put_by_number : (first : Bool) (kept : List IndexEntry) (change : Change) → PutsByNumber first def primary tuple (get tuples primary) change
          → StoresByNumber first def tuples kept → StoresByNumber first def (insert tuples primary tuple) (changed bytes change kept)
      put_by_number true kept change none no_entries = unchanged bytes change kept none ∙ no_entries
      put_by_number false kept change puts keeps = put_one kept change (get tuples primary) refl puts keeps

    remove_by_number : (first : Bool) (kept : List IndexEntry) (key : Option (List ℕ)) (old : List ℕ) → get tuples primary ≡ Some old → RemovesByNumber first def primary old key
        → StoresByNumber first def tuples kept → StoresByNumber first def (remove tuples primary) (without_key key kept)
    remove_by_number true kept key old there none no_entries = ap (λ k. without_key k kept) none ∙ no_entries
    remove_by_number false kept key old there removes keeps =
        let new : kept_entries def (remove tuples primary) ≡ remove (kept_entries def tuples) (kept_key def primary old) =
        entries_without def long tuples whole primary is ∙ ap (λ o. without_entry def primary o (kept_entries def tuples)) there in
        subst (λ k. StoresEntries (without_key k kept) (kept_entries def (remove tuples primary))) (sym removes.key_is)
        (subst (StoresEntries (without_key (Some (comparable_of (kept_key def primary old))) kept)) (sym new)
        (stores_less (kept_key def primary old) removes.fit kept (kept_entries def tuples) keeps))

  -- all indexes with a tuple more
  pub put_in_all : (tuple : List ℕ) (defs : List IndexDef) (kept : List (List IndexEntry)) (changes : List Change) → AllZip (StoresIndex tuples) defs kept
      → AllZip (Puts primary tuple (get tuples primary)) defs changes
      → AllZip (StoresIndex (insert tuples primary tuple)) defs (all_changed (comparable_of primary) changes kept)
  put_in_all tuple [] [] [] keep put = tt
  put_in_all tuple [] [] (change ∷ changes) keep put = absurd put
  put_in_all tuple [] (one ∷ kept) changes keep put = absurd keep
  put_in_all tuple (def ∷ defs) [] changes keep put = absurd keep
  put_in_all tuple (def ∷ defs) (one ∷ kept) [] keep put = absurd put
  put_in_all tuple (def ∷ defs) (one ∷ kept) (change ∷ changes) keep put =
      (put_by_number def tuple (def.id.0 == 0) one change put.0 keep.0, put_in_all tuple defs kept changes keep.1 put.1)

  -- all indexes with a tuple less
  pub removed_from_all : (old : List ℕ) → get tuples primary ≡ Some old → (defs : List IndexDef) (kept : List (List IndexEntry)) (keys : List (Option (List ℕ)))
      → AllZip (StoresIndex tuples) defs kept → AllZip (Removes primary old) defs keys → AllZip (StoresIndex (remove tuples primary)) defs (all_without keys kept)
  removed_from_all old there [] [] [] keep removes = tt
  removed_from_all old there [] [] (key ∷ keys) keep removes = absurd removes
  removed_from_all old there [] (one ∷ kept) keys keep removes = absurd keep
  removed_from_all old there (def ∷ defs) [] keys keep removes = absurd keep
  removed_from_all old there (def ∷ defs) (one ∷ kept) [] keep removes = absurd removes
  removed_from_all old there (def ∷ defs) (one ∷ kept) (key ∷ keys) keep removes =
      (remove_by_number def (def.id.0 == 0) one key old there removes.0 keep.0, removed_from_all old there defs kept keys keep.1 removes.1)
