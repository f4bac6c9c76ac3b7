-- A space's content where a change is made ready, and where it is made.
use Rattle.std.proofs.Common.{◌≡◌, ◌≢◌, ℕ, false, cond, List, [], ◌∷◌, length, Option, Some, None, refl, sym, ap, ◌∙◌, ◌<◌, Bool, true, Ok, inl, inr, subst, arith}
use Rattle.std.specs.Prelude.{IfSome, ◌==◌, if◌then◌else◌, is_some, not}
use Rattle.std.specs.FinMap.{FinMap, get, get-insert, insert, remove, entries}
use Rattle.std.specs.List.{AllByRecursion, AllZip}
use Rattle.std.specs.Ordering.{eq_by_cmp, nat_cmp}
use Rattle.std.specs.BTreeMap.{is_at}
use Rattle.std.specs.Cmp.Lexicographic.{slice_cmp}
use Rattle.std.specs.Map.{remove_entry}
use Rattle.mx_key.specs.Keys.{Key, key_cmp, AreFit}
use Rattle.mx_key.proofs.KeyLaws.{key_cmp_total}
use Rattle.mx_schema.specs.declared.index_def.IndexDef.{IndexDef}
use Rattle.mx_schema.specs.State.{Tuples, key_in, key_or_none}
use Rattle.mx_entries.specs.Built.{AreLong}
use Rattle.mx_entries.specs.KeptEntries.{kept_entries, StoresEntries}
use Rattle.mx_entries.specs.KeptKeys.{kept_key}
use Rattle.mx_entries.specs.PlainChanges.{Coming}
use Rattle.mx_space.specs.Reserved.{IsFree, coming_entries, coming_tuples, Content, Edits, EditsAll, StoresComing, StoresComingByNumber, StoresReserved, all_added, content_installed, content_readied, is_removal, removed_keys, tuples_with, with_removal}
use Rattle.mx_entries.proofs.EntriesLaws.{entries_with, entries_without, primary_behind, primary_in, without_entry, entry_is_new, entry_there}
use Rattle.mx_entries.proofs.KeyMapLaws.{left_apart, put_apart, untied, put_again, put_behind}
use Rattle.mx_tuple.specs.Fields.{tuple_of}
use Rattle.mx_key.specs.Comparable.{comparable_of}
use Rattle.mx_msgpack.proofs.Options.{same_some}
use Rattle.mx_schema.specs.declared.schema.Schema.{Schema}
use Rattle.mx_schema.specs.Catalogues.{StandByKey, index_with}
use Rattle.mx_schema.specs.Stored.{StandByPrimary, StoresTuples}
use Rattle.mx_schema.proofs.PartLaws.{key_length, stand_whole}
use Rattle.mx_schema.proofs.StateLaws.{stands_after, stands_left}
use Rattle.mx_schema.proofs.TakenLaws.{each_found, stores_left}
use Rattle.mx_space.specs.declared.change.Change.{Change}
use Rattle.mx_space.specs.declared.prepared.Step.{Step}
use Rattle.mx_space.specs.declared.prepared.TupleStep.{TupleStep}
use Rattle.mx_space.specs.declared.prepared.TupleStep.TheVariants.{Removal, Insertion, Replacement}
use Rattle.mx_space.specs.Changes.{AddsEntry, PutsByNumber, RemovesByNumber, all_without}
use Rattle.mx_entries.specs.EntryChanges.{with_added, without_key}
use Rattle.mx_entries.specs.Entries.{IndexEntry}
use Rattle.mx_entries.proofs.BytesLaws.{one_by_bytes, stores_added, stores_less}
use Rattle.mx_space.proofs.ChangeLaws.{put_stored}
use Rattle.mx_entries.proofs.KeptLaws.{none_removed}

-- ---- the tuples and the entries of a space while changes of it are ready

-- the keys of tuples that will be put have so many parts
abbrev pub AreComingLong : ℕ → List Coming → Type 0
AreComingLong long coming = AllByRecursion (λ (one : Coming). IfSome one.1 (λ _. length one.0 ≡ long)) coming

-- ---- tuples with those that are put

module _ (tuples : Tuples) (key : Key) where
  -- a key without a change has the tuple that it had
  pub coming_found : (coming : List Coming) → IsFree key coming → get (coming_tuples tuples coming) key ≡ get tuples key
  coming_found [] free = refl
  coming_found ((other, None) ∷ coming) free = coming_found coming free.1
  coming_found ((other, Some second) ∷ coming) free =
      let all = coming_tuples tuples coming in
      get-insert key_cmp_total all other second key ∙ ap (λ b. cond b (Some second) (get all key)) (untied key other free.0) ∙ coming_found coming free.1

  -- and may be given another one
  pub coming_put : (tuple : List ℕ) (coming : List Coming) → IsFree key coming → coming_tuples (insert tuples key tuple) coming ≡ insert (coming_tuples tuples coming) key tuple
  coming_put tuple [] free = refl
  coming_put tuple ((other, None) ∷ coming) free = coming_put tuple coming free.1
  coming_put tuple ((other, Some second) ∷ coming) free =
      ap (λ (t : Tuples). insert t other second) (coming_put tuple coming free.1)
      ∙ put_apart (coming_tuples tuples coming) key other tuple second (untied key other free.0)

  -- or none
  pub coming_left : (coming : List Coming) → IsFree key coming → coming_tuples (remove tuples key) coming ≡ remove (coming_tuples tuples coming) key
  coming_left [] free = refl
  coming_left ((other, None) ∷ coming) free = coming_left coming free.1
  coming_left ((other, Some second) ∷ coming) free =
      ap (λ (t : Tuples). insert t other second) (coming_left coming free.1)
      ∙ sym (left_apart (coming_tuples tuples coming) other key second (untied other key (λ same. free.0 (sym same))))

-- ---- entries of tuples and of those that will be put

-- entries of two primary keys differ
pub entries_apart : (def : IndexDef) (long : ℕ) (one other : Key) (tuple second : List ℕ) → length one ≡ long → length other ≡ long → one ≢ other
    → eq_by_cmp key_cmp (kept_key def one tuple) (kept_key def other second) ≡ false
entries_apart def long one other tuple second is are apart =
    untied (kept_key def one tuple) (kept_key def other second)
    (λ same. apart (sym (primary_behind (key_or_none (key_in def.key tuple)) one long is) ∙ ap (primary_in long) same ∙ primary_behind (key_or_none (key_in def.key second)) other long are))

module _ (def : IndexDef) (long : ℕ) (tuples : Tuples) (whole : AreLong long tuples) (key : Key) (is : length key ≡ long) where
  -- a key without a change has the entries that it had
  pub entry_found : (tuple : List ℕ) (coming : List Coming) → IsFree key coming → AreComingLong long coming
      → get (coming_entries def tuples coming) (kept_key def key tuple) ≡ get (kept_entries def tuples) (kept_key def key tuple)
  entry_found tuple [] free are = refl
  entry_found tuple ((other, None) ∷ coming) free are = entry_found tuple coming free.1 are.1
  entry_found tuple ((other, Some second) ∷ coming) free are =
      let all = coming_entries def tuples coming in
      get-insert key_cmp_total all (kept_key def other second) other (kept_key def key tuple)
      ∙ ap (λ b. cond b (Some other) (get all (kept_key def key tuple))) (entries_apart def long key other tuple second is are.0 free.0)
      ∙ entry_found tuple coming free.1 are.1

  -- an entry of another key is put before or after the old one is taken out
  put_without : (all : FinMap key_cmp Key) (other : Key) (second : List ℕ) → length other ≡ long → key ≢ other → (old : Option (List ℕ))
      → insert (without_entry def key old all) (kept_key def other second) other ≡ without_entry def key old (insert all (kept_key def other second) other)
  put_without all other second are apart None = refl
  put_without all other second are apart (Some old) =
      sym (left_apart all (kept_key def other second) (kept_key def key old) other (entries_apart def long other key second old are is (λ same. apart (sym same))))

  -- it has that of another tuple
  pub entries_put : (tuple : List ℕ) (coming : List Coming) → IsFree key coming → AreComingLong long coming
      → coming_entries def (insert tuples key tuple) coming ≡ insert (without_entry def key (get tuples key) (coming_entries def tuples coming)) (kept_key def key tuple) key
  entries_put tuple [] free are = entries_with def long tuples whole key is tuple
  entries_put tuple ((other, None) ∷ coming) free are = entries_put tuple coming free.1 are.1
  entries_put tuple ((other, Some second) ∷ coming) free are =
      let all = coming_entries def tuples coming in
      ap (λ (e : FinMap key_cmp Key). insert e (kept_key def other second) other) (entries_put tuple coming free.1 are.1)
      ∙ put_apart (without_entry def key (get tuples key) all) (kept_key def key tuple) (kept_key def other second) key other
      (entries_apart def long key other tuple second is are.0 free.0)
      ∙ ap (λ (e : FinMap key_cmp Key). insert e (kept_key def key tuple) key) (put_without all other second are.0 free.0 (get tuples key))

  -- or none
  pub entries_left : (coming : List Coming) → IsFree key coming → AreComingLong long coming
      → coming_entries def (remove tuples key) coming ≡ without_entry def key (get tuples key) (coming_entries def tuples coming)
  entries_left [] free are = entries_without def long tuples whole key is
  entries_left ((other, None) ∷ coming) free are = entries_left coming free.1 are.1
  entries_left ((other, Some second) ∷ coming) free are =
      let all = coming_entries def tuples coming in
      ap (λ (e : FinMap key_cmp Key). insert e (kept_key def other second) other) (entries_left coming free.1 are.1)
      ∙ put_without all other second are.0 free.0 (get tuples key)

-- ---- a space's content where a change is made ready, and where it is made

-- the primary index has no entries, whatever the tuples are and the changes to come
kept_alone : (all other : Tuples) (coming after : List Coming) (defs : List IndexDef) (kept : List (List IndexEntry)) (primary : IndexDef) → length defs < 2
    → index_with 0 defs ≡ Some primary → AllZip (StoresComing all coming) defs kept → AllZip (StoresComing other after) defs kept
kept_alone all other coming after [] kept primary one there each = absurd cc
kept_alone all other coming after (def ∷ []) [] primary one there each = absurd each
kept_alone all other coming after (def ∷ []) (first ∷ []) primary one there each = (by_number (def.id.0 == 0) there each.0, tt)
  where
    by_number : (own : Bool) → (if own then Some def else None) ≡ Some primary → StoresComingByNumber own def all coming first → StoresComingByNumber own def other after first
    by_number true there none = none
    by_number false there none = absurd cc
kept_alone all other coming after (def ∷ []) (first ∷ next ∷ kept) primary one there each = absurd each.1
kept_alone all other coming after (def ∷ second ∷ defs) kept primary one there each = absurd (omega (arith, one))

module _ (tuples : Tuples) (long : ℕ) (whole : AreLong long tuples) (key : Key) (coming : List Coming) (free : IsFree key coming) (are : AreComingLong long coming) where
  abbrev bytes : List ℕ
  bytes = comparable_of key

  module _ (def : IndexDef) where
    -- the entries without this change
    abbrev others : FinMap key_cmp Key
    others = coming_entries def tuples coming

    module _ (tuple : List ℕ) (is : length key ≡ long) where
      abbrev new_key : Key
      new_key = kept_key def key tuple

      -- an entry more
      added_to : (change : Change) (kept : List IndexEntry) → AddsEntry def key tuple change → StoresEntries kept others → get others new_key ≡ None
          → StoresEntries (with_added change.added bytes kept) (insert others new_key key)
      added_to change kept adds keeps new = stores_added new_key key change.added adds.fit adds.added kept others keeps new

      -- the tuple's entry is made ready
      ready_put : (kept : List IndexEntry) (change : Change) (old : Option (List ℕ)) → get tuples key ≡ old → (first : Bool) → PutsByNumber first def key tuple old change
          → StoresComingByNumber first def tuples coming kept → StoresComingByNumber first def tuples ((key, Some tuple) ∷ coming) (with_added change.added bytes kept)
      ready_put kept change old there true none no_entries = ap (λ a. with_added a bytes kept) none.added ∙ no_entries
      ready_put kept change None there false (adds, no_other) keeps =
          added_to change kept adds keeps
          (entry_found def long tuples whole key is tuple coming free are ∙ entry_is_new def long tuples whole key is tuple None there (λ replaced e. absurd cc))
      ready_put kept change (Some old) there false (inl (none, one)) keeps =
          let same : new_key ≡ kept_key def key old = one_by_bytes new_key (kept_key def key old) one.fit one.fits one.same in
          let has : get others new_key ≡ Some key =
          entry_found def long tuples whole key is tuple coming free are ∙ ap (get (kept_entries def tuples)) same ∙ entry_there def long tuples whole key old is there in
          subst (λ a. StoresEntries (with_added a bytes kept) (insert others new_key key)) (sym none.added)
          (subst (StoresEntries kept) (sym (put_again others new_key key has)) keeps)
      ready_put kept change (Some old) there false (inr (adds, removes, apart)) keeps =
          let other : eq_by_cmp key_cmp new_key (kept_key def key old) ≡ false = untied new_key (kept_key def key old) (λ same. apart (ap comparable_of (sym same))) in
          added_to change kept adds keeps
          (entry_found def long tuples whole key is tuple coming free are
          ∙ entry_is_new def long tuples whole key is tuple (Some old) there (λ replaced e. subst (λ o. eq_by_cmp key_cmp new_key (kept_key def key o) ≡ false) (same_some old replaced e) other))

      -- the tuple is put
      made_put : (kept : List IndexEntry) (change : Change) (old : Option (List ℕ)) → get tuples key ≡ old → (first : Bool) → PutsByNumber first def key tuple old change
          → StoresComingByNumber first def tuples ((key, Some tuple) ∷ coming) kept → StoresComingByNumber first def (insert tuples key tuple) coming (without_key change.removed kept)
      made_put kept change old there true none no_entries = ap (λ r. without_key r kept) none.removed ∙ no_entries
      made_put kept change None there false (adds, no_other) keeps =
          let new : coming_entries def (insert tuples key tuple) coming ≡ insert others new_key key =
          entries_put def long tuples whole key is tuple coming free are ∙ ap (λ o. insert (without_entry def key o others) new_key key) there in
          subst (λ r. StoresEntries (without_key r kept) (coming_entries def (insert tuples key tuple) coming)) (sym no_other) (subst (StoresEntries kept) (sym new) keeps)
      made_put kept change (Some old) there false (inl (none, one)) keeps =
          let same : new_key ≡ kept_key def key old = one_by_bytes new_key (kept_key def key old) one.fit one.fits one.same in
          let new : coming_entries def (insert tuples key tuple) coming ≡ insert others new_key key =
          entries_put def long tuples whole key is tuple coming free are ∙ ap (λ o. insert (without_entry def key o others) new_key key) there
          ∙ ap (λ k. insert (remove others k) new_key key) (sym same) ∙ put_behind others new_key key in
          subst (λ r. StoresEntries (without_key r kept) (coming_entries def (insert tuples key tuple) coming)) (sym none.removed) (subst (StoresEntries kept) (sym new) keeps)
      made_put kept change (Some old) there false (inr (adds, removes, apart)) keeps =
          let old_key = kept_key def key old in
          let new : coming_entries def (insert tuples key tuple) coming ≡ remove (insert others new_key key) old_key =
          entries_put def long tuples whole key is tuple coming free are ∙ ap (λ o. insert (without_entry def key o others) new_key key) there
          ∙ sym (left_apart others new_key old_key key (untied new_key old_key (λ same. apart (ap comparable_of (sym same))))) in
          subst (λ r. StoresEntries (without_key r kept) (coming_entries def (insert tuples key tuple) coming)) (sym removes.key_is)
          (subst (StoresEntries (without_key (Some (comparable_of old_key)) kept)) (sym new) (stores_less old_key removes.fit kept (insert others new_key key) keeps))

    -- a removal adds no entry
    ready_removal : (kept : List IndexEntry) (change : Change) (first : Bool) → change.added ≡ None → StoresComingByNumber first def tuples coming kept
        → StoresComingByNumber first def tuples ((key, None) ∷ coming) (with_added change.added bytes kept)
    ready_removal kept change true none no_entries = ap (λ a. with_added a bytes kept) none ∙ no_entries
    ready_removal kept change false none keeps = subst (λ a. StoresEntries (with_added a bytes kept) others) (sym none) keeps

    -- a tuple is removed
    made_removal : (kept : List IndexEntry) (change : Change) (old : List ℕ) → get tuples key ≡ Some old → (first : Bool) → RemovesByNumber first def key old change.removed
        → StoresComingByNumber first def tuples ((key, None) ∷ coming) kept → StoresComingByNumber first def (remove tuples key) coming (without_key change.removed kept)
    made_removal kept change old there true none no_entries = ap (λ r. without_key r kept) none ∙ no_entries
    made_removal kept change old there false removes keeps =
        let old_key = kept_key def key old in
        let is : length key ≡ long = each_found key (λ entry. length entry.0 ≡ long) tuples old there whole in
        let new : coming_entries def (remove tuples key) coming ≡ remove others old_key =
        entries_left def long tuples whole key is coming free are ∙ ap (λ o. without_entry def key o others) there in
        subst (λ r. StoresEntries (without_key r kept) (coming_entries def (remove tuples key) coming)) (sym removes.key_is)
        (subst (StoresEntries (without_key (Some (comparable_of old_key)) kept)) (sym new) (stores_less old_key removes.fit kept others keeps))

    -- or isn't there
    none_made : (kept : List IndexEntry) (change : Change) → get tuples key ≡ None → (first : Bool) → change.removed ≡ None
        → StoresComingByNumber first def tuples ((key, None) ∷ coming) kept → StoresComingByNumber first def (remove tuples key) coming (without_key change.removed kept)
    none_made kept change there true none no_entries = ap (λ r. without_key r kept) none ∙ no_entries
    none_made kept change there false none keeps =
        subst (λ r. StoresEntries (without_key r kept) (coming_entries def (remove tuples key) coming)) (sym none)
        (subst (λ (t : Tuples). StoresEntries kept (coming_entries def t coming)) (sym (none_removed tuples key there)) keeps)

    ready_index : (tuple : Option (List ℕ)) → IfSome tuple (λ _. length key ≡ long) → (kept : List IndexEntry) (change : Change) (old : Option (List ℕ)) → get tuples key ≡ old
        → Edits key tuple old def change → StoresComing tuples coming def kept → StoresComing tuples ((key, tuple) ∷ coming) def (with_added change.added bytes kept)
    ready_index (Some tuple) is kept change old there edits keeps = ready_put tuple is kept change old there (def.id.0 == 0) edits keeps
    ready_index None is kept change None there edits keeps = ready_removal kept change (def.id.0 == 0) edits.added keeps
    ready_index None is kept change (Some old) there edits keeps = ready_removal kept change (def.id.0 == 0) edits.0 keeps

    made_index : (tuple : Option (List ℕ)) → IfSome tuple (λ _. length key ≡ long) → (kept : List IndexEntry) (change : Change) (old : Option (List ℕ)) → get tuples key ≡ old
        → Edits key tuple old def change → StoresComing tuples ((key, tuple) ∷ coming) def kept → StoresComing (tuples_with tuples (key, tuple)) coming def (without_key change.removed kept)
    made_index (Some tuple) is kept change old there edits keeps = made_put tuple is kept change old there (def.id.0 == 0) edits keeps
    made_index None is kept change None there edits keeps = none_made kept change there (def.id.0 == 0) edits.removed keeps
    made_index None is kept change (Some old) there edits keeps = made_removal kept change old there (def.id.0 == 0) edits.1 keeps

  -- all indexes with the entries to come
  ready_all : (tuple old : Option (List ℕ)) → IfSome tuple (λ _. length key ≡ long) → get tuples key ≡ old → (defs : List IndexDef) (kept : List (List IndexEntry)) (changes : List Change)
      → AllZip (StoresComing tuples coming) defs kept → AllZip (Edits key tuple old) defs changes
      → AllZip (StoresComing tuples ((key, tuple) ∷ coming)) defs (all_added (comparable_of key) changes kept)
  ready_all tuple old is there [] [] [] keep edits = tt
  ready_all tuple old is there [] [] (change ∷ changes) keep edits = absurd edits
  ready_all tuple old is there [] (one ∷ kept) changes keep edits = absurd keep
  ready_all tuple old is there (def ∷ defs) [] changes keep edits = absurd keep
  ready_all tuple old is there (def ∷ defs) (one ∷ kept) [] keep edits = absurd edits
  ready_all tuple old is there (def ∷ defs) (one ∷ kept) (change ∷ changes) keep edits =
      (ready_index def tuple is one change old there edits.0 keep.0, ready_all tuple old is there defs kept changes keep.1 edits.1)

  -- all indexes after the change
  made_all : (tuple old : Option (List ℕ)) → IfSome tuple (λ _. length key ≡ long) → get tuples key ≡ old → (defs : List IndexDef) (kept : List (List IndexEntry)) (changes : List Change)
      → AllZip (StoresComing tuples ((key, tuple) ∷ coming)) defs kept → AllZip (Edits key tuple old) defs changes
      → AllZip (StoresComing (tuples_with tuples (key, tuple)) coming) defs (all_without (removed_keys changes) kept)
  made_all tuple old is there [] [] [] keep edits = tt
  made_all tuple old is there [] [] (change ∷ changes) keep edits = absurd edits
  made_all tuple old is there [] (one ∷ kept) changes keep edits = absurd keep
  made_all tuple old is there (def ∷ defs) [] changes keep edits = absurd keep
  made_all tuple old is there (def ∷ defs) (one ∷ kept) [] keep edits = absurd edits
  made_all tuple old is there (def ∷ defs) (one ∷ kept) (change ∷ changes) keep edits =
      (made_index def tuple is one change old there edits.0 keep.0, made_all tuple old is there defs kept changes keep.1 edits.1)

  -- also where the primary index is the only one
  ready_in_all : (tuple old : Option (List ℕ)) → IfSome tuple (λ _. length key ≡ long) → get tuples key ≡ old → (defs : List IndexDef) (kept : List (List IndexEntry)) (changes : List Change)
      (primary : IndexDef) → index_with 0 defs ≡ Some primary → AllZip (StoresComing tuples coming) defs kept → EditsAll key tuple old defs changes
      → AllZip (StoresComing tuples ((key, tuple) ∷ coming)) defs (all_added (comparable_of key) changes kept)
  ready_in_all tuple old is there defs kept changes primary first keep (inl edits) = ready_all tuple old is there defs kept changes keep edits
  ready_in_all tuple old is there defs kept changes primary first keep (inr (none, one)) =
      subst (λ l. AllZip (StoresComing tuples ((key, tuple) ∷ coming)) defs (all_added (comparable_of key) l kept)) (sym none)
      (kept_alone tuples tuples coming ((key, tuple) ∷ coming) defs kept primary one first keep)

  made_in_all : (tuple old : Option (List ℕ)) → IfSome tuple (λ _. length key ≡ long) → get tuples key ≡ old → (defs : List IndexDef) (kept : List (List IndexEntry)) (changes : List Change)
      (primary : IndexDef) → index_with 0 defs ≡ Some primary → AllZip (StoresComing tuples ((key, tuple) ∷ coming)) defs kept → EditsAll key tuple old defs changes
      → AllZip (StoresComing (tuples_with tuples (key, tuple)) coming) defs (all_without (removed_keys changes) kept)
  made_in_all tuple old is there defs kept changes primary first keep (inl edits) = made_all tuple old is there defs kept changes keep edits
  made_in_all tuple old is there defs kept changes primary first keep (inr (none, one)) =
      subst (λ l. AllZip (StoresComing (tuples_with tuples (key, tuple)) coming) defs (all_without (removed_keys l) kept)) (sym none)
      (kept_alone tuples (tuples_with tuples (key, tuple)) ((key, tuple) ∷ coming) coming defs kept primary one first keep)

-- ---- a space

-- a tuple that is put has a key of all parts
pub put_long : (primary : IndexDef) (key : Key) (tuple : Option (List ℕ)) → IfSome tuple (λ t. key_in primary.key t ≡ Ok key) → IfSome tuple (λ _. length key ≡ length primary.key)
put_long primary key None keyed = tt
put_long primary key (Some tuple) keyed = key_length primary.key (tuple_of tuple).fields key keyed

module _ (schema : Option Schema) (content : Content) (tuples : Tuples) (coming : List Coming) (primary : IndexDef) (there : index_with 0 content.0.indexes ≡ Some primary)
    (key : Key) (tuple : Option (List ℕ)) (fit : AreFit key) (free : IsFree key coming) (are : AreComingLong (length primary.key) coming)
    (keyed : IfSome tuple (λ t. key_in primary.key t ≡ Ok key)) (step : Step) (key_is : step.key ≡ comparable_of key) (removes : is_removal step.tuple ≡ not (is_some tuple))
    (edits : EditsAll key tuple (get tuples key) content.0.indexes step.edits.items) where
  space_long : StandByPrimary content.0 tuples → AreLong (length primary.key) tuples
  space_long stands = stand_whole primary.key (entries tuples) (subst (λ (o : Option IndexDef). IfSome o (λ def. StandByKey def.key tuples)) there stands)

  -- its change is made ready
  pub readied_stores : StoresReserved schema content tuples coming → StoresReserved schema (content_readied tuple step content) tuples ((key, tuple) ∷ coming)
  readied_stores stores = record {
    is = stores.is;
    keeps = put_stored content.1 (coming_tuples tuples coming) key tuple step.key stores.keeps fit key_is;
    stands = stores.stands;
    indexes = subst (λ b. AllZip (StoresComing tuples ((key, tuple) ∷ coming)) content.0.indexes (all_added b step.edits.items content.2)) (sym key_is)
        (ready_in_all tuples (length primary.key) (space_long stores.stands) key coming free are tuple (get tuples key) (put_long primary key tuple keyed) refl
        content.0.indexes content.2 step.edits.items primary there stores.indexes edits);
  }

  kept_after : (tuple : Option (List ℕ)) (made : TupleStep) → is_removal made ≡ not (is_some tuple) → StoresTuples content.1 (coming_tuples tuples ((key, tuple) ∷ coming))
      → StoresTuples (with_removal made step.key content.1) (coming_tuples (tuples_with tuples (key, tuple)) coming)
  kept_after None Removal removes keeps =
      subst (StoresTuples (with_removal Removal step.key content.1)) (sym (coming_left tuples key coming free))
      (stores_left key content.1 (remove_entry (is_at (slice_cmp nat_cmp step.key)) content.1) (coming_tuples tuples coming) step.key fit key_is refl keeps)
  kept_after None Insertion removes keeps = absurd cc
  kept_after None (Replacement old) removes keeps = absurd cc
  kept_after (Some tuple) Removal removes keeps = absurd cc
  kept_after (Some tuple) Insertion removes keeps = subst (StoresTuples content.1) (sym (coming_put tuples key tuple coming free)) keeps
  kept_after (Some tuple) (Replacement old) removes keeps = subst (StoresTuples content.1) (sym (coming_put tuples key tuple coming free)) keeps

  stand_then : (tuple : Option (List ℕ)) → IfSome tuple (λ t. key_in primary.key t ≡ Ok key) → StandByPrimary content.0 tuples → StandByPrimary content.0 (tuples_with tuples (key, tuple))
  stand_then None keyed stands = stands_left content.0 tuples key stands
  stand_then (Some tuple) keyed stands =
      stands_after content.0 tuples key tuple (subst (λ (o : Option IndexDef). IfSome o (λ def. key_in def.key tuple ≡ Ok key)) (sym there) keyed) stands

  -- and made
  pub installed_stores : StoresReserved schema content tuples ((key, tuple) ∷ coming) → StoresReserved schema (content_installed step content) (tuples_with tuples (key, tuple)) coming
  installed_stores stores = record {
    is = stores.is;
    keeps = kept_after tuple step.tuple removes stores.keeps;
    stands = stand_then tuple keyed stores.stands;
    indexes = made_in_all tuples (length primary.key) (space_long stores.stands) key coming free are tuple (get tuples key) (put_long primary key tuple keyed) refl
        content.0.indexes content.2 step.edits.items primary there stores.indexes edits;
  }
