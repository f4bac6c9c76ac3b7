-- A space with a tuple more, with one less, and as it was.
use Rattle.std.proofs.Common.{◌≡◌, ℕ, suc, List, [], ◌∷◌, length, drop, map, Option, refl, ap, ◌∙◌, arith, ◌++◌, sym, subst, append-nil, ◌≢◌, ◌<◌, Some, None, Result, Ok, Err, Bool, true, false}
use Rattle.std.specs.Prelude.{Vec, IfSome, OnOk, ◌==◌, if◌then◌else◌}
use Rattle.std.specs.Vec.{with_items}
use Rattle.std.proofs.lemmas.List.{length-map, take_at, append_assoc}
use Rattle.std.specs.List.{AllZip, AllByRecursion}
use Rattle.std.specs.BTreeMap.{insert_entry, is_at}
use Rattle.std.specs.Cmp.Lexicographic.{slice_cmp}
use Rattle.std.specs.FinMap.{empty, entries, get, insert, remove}
use Rattle.std.specs.Map.{remove_entry}
use Rattle.std.specs.Ordering.{nat_cmp}
use Rattle.mx_space.specs.declared.change.Change.{Change}
use Rattle.mx_space.specs.Changes.{all_changed, all_without, Puts, Removes}
use Rattle.mx_entries.specs.Entries.{IndexEntry}
use Rattle.mx_tuple.specs.Fields.{tuple_of}
use Rattle.mx_key.specs.Keys.{Key, AreFit}
use Rattle.mx_key.specs.Comparable.{comparable_of}
use Rattle.mx_schema.specs.declared.index_def.IndexDef.{IndexDef}
use Rattle.mx_schema.specs.declared.schema.Schema.{Schema}
use Rattle.mx_schema.specs.Catalogues.{StandByKey, index_with, schema_of}
use Rattle.mx_schema.specs.State.{Tuples, key_in, State, tuples_in}
use Rattle.mx_schema.specs.Stored.{StandByPrimary, StoresSpace}
use Rattle.mx_schema.proofs.StateLaws.{none_stand, stands_after}
use Rattle.mx_schema.proofs.StoredLaws.{stores_put, each_none}
use Rattle.mx_schema.proofs.TakenLaws.{each_found, each_left, stores_left}
use Rattle.mx_schema.proofs.PartLaws.{key_length, stand_whole}
use Rattle.mx_space.specs.declared.space.Space.{Space}
use Rattle.mx_entries.specs.Built.{AreLong}
use Rattle.mx_entries.specs.KeptEntries.{StoresIndex}
use Rattle.mx_space.specs.Kept.{StoresIndexed}
use Rattle.mx_entries.proofs.BytesLaws.{stores_none}
use Rattle.mx_space.proofs.ChangeLaws.{put_in_all, removed_from_all}
use Rattle.mx_entries.proofs.KeptLaws.{kept_alone}
use Rattle.mx_schema.specs.Sound.{AreIndexed, AreKeyed, AreUnique, HaveKeys, IsSound}
use Rattle.mx_schema.proofs.StoredLaws as stored

-- ---- the entries of each index after they were changed in place

changed_long : (primary : List ℕ) (changes : List Change) (kept : List (List IndexEntry)) → length (all_changed primary changes kept) ≡ length kept
changed_long primary [] kept = refl
changed_long primary (change ∷ changes) [] = refl
changed_long primary (change ∷ changes) (one ∷ others) = ap (λ n. suc n) (changed_long primary changes others)

without_long : (keys : List (Option (List ℕ))) (kept : List (List IndexEntry)) → length (all_without keys kept) ≡ length kept
without_long [] kept = refl
without_long (key ∷ keys) [] = refl
without_long (key ∷ keys) (one ∷ others) = ap (λ n. suc n) (without_long keys others)

items_now : {X Z : Type 0} (v : Vec X Z) (now made : List X) → now ≡ made → length made ≡ length v.items → (with_items v now).items ≡ made
items_now v now made is long =
    let same : length now ≡ length v.items = ap length is ∙ long in
    take_at now (drop (length now) v.items) v.len (omega (arith, same, v.ok.0)) ∙ is

module _ {Z : Type 0} (v : Vec (List IndexEntry) Z) where
  pub items_kept : (now : List (List IndexEntry)) → now ≡ v.items → (with_items v now).items ≡ v.items
  items_kept now is = items_now v now v.items is refl

  pub items_changed : (now : List (List IndexEntry)) (primary : List ℕ) (changes : List Change) → now ≡ all_changed primary changes v.items
      → (with_items v now).items ≡ all_changed primary changes v.items
  items_changed now primary changes is = items_now v now (all_changed primary changes v.items) is (changed_long primary changes v.items)

  pub items_without : (now : List (List IndexEntry)) (keys : List (Option (List ℕ))) → now ≡ all_without keys v.items → (with_items v now).items ≡ all_without keys v.items
  items_without now keys is = items_now v now (all_without keys v.items) is (without_long keys v.items)

  pub items_cleared : (now : List (List IndexEntry)) → now ≡ map (λ _. []) v.items → (with_items v now).items ≡ map (λ _. []) v.items
  items_cleared now is = items_now v now (map (λ _. []) v.items) is (length-map v.items (λ _. []))

-- ---- a list that is made item by item of another one

module _ {A B : Type 0} (R : A → B → Type 0) where
  -- those that were made, with any that meet the rest, meet all
  abbrev pub IsMade : (all left : List A) → (made : List B) → Type 0
  IsMade all left made = (rest : List B) → AllZip R left rest → AllZip R all (made ++ rest)

  pub none_made : (all left : List A) (made : List B) → made ≡ [] → left ≡ all → IsMade all left made
  none_made all left made none same rest meet = subst (λ m. AllZip R all (m ++ rest)) (sym none) (subst (λ l. AllZip R l rest) same meet)

  pub one_made : (all left others : List A) (made after : List B) (from : A) (one : B) → left ≡ from ∷ others → after ≡ made ++ one ∷ [] → R from one
      → IsMade all left made → IsMade all others after
  one_made all left others made after from one next more meets so_far rest meet =
      subst (AllZip R all) (sym (ap (λ m. m ++ rest) more ∙ append_assoc made (one ∷ []) rest))
      (so_far (one ∷ rest) (subst (λ l. AllZip R l (one ∷ rest)) (sym next) (meets, meet)))

  pub all_made : (all left : List A) (made : List B) → length left ≡ 0 → IsMade all left made → AllZip R all made
  all_made all [] made over so_far = subst (AllZip R all) (append-nil made) (so_far [] tt)
  all_made all (from ∷ left) made over so_far = absurd (omega arith)

-- ---- no tuples

-- a new space
pub new_space : (space : Space) (schema : Schema) → space.schema ≡ schema → space.tuples.entries ≡ [] → AllZip (StoresIndex empty) schema.indexes space.indexes.items
    → StoresIndexed (Some schema) space empty
new_space space schema same none each = record {
  holds = record {
    is = ap (λ s. Some s) (sym same);
    keeps = stored.stores_none space.tuples.entries none;
    stands = none_stand space.schema;
  };
  indexes = subst (λ (s : Schema). AllZip (StoresIndex empty) s.indexes space.indexes.items) (sym same) each;
}

-- the primary keys have as many parts as the index of the number 0
pub space_long : (was : Option Schema) (space : Space) (all : Tuples) (primary : IndexDef) → StoresIndexed was space all → index_with 0 space.schema.indexes ≡ Some primary
    → AreLong (length primary.key) all
space_long was space all primary stores there =
    stand_whole primary.key (entries all) (subst (λ (o : Option IndexDef). IfSome o (λ def. StandByKey def.key all)) there stores.holds.stands)

-- so they have some number of parts, where there is one
pub primary_long : (was : Option Schema) (space : Space) (all : Tuples) → StoresIndexed was space all → (long : ℕ) × (index_with 0 space.schema.indexes ≢ None → AreLong long all)
primary_long was space all stores = by_index (index_with 0 space.schema.indexes) refl
  where
    by_index : (o : Option IndexDef) → index_with 0 space.schema.indexes ≡ o → (long : ℕ) × (index_with 0 space.schema.indexes ≢ None → AreLong long all)
    by_index None is = (0, λ there. absurd (there is))
    by_index (Some primary) is = (length primary.key, λ there. space_long was space all primary stores is)

module _ (schema : Option Schema) (before after : Space) (all : Tuples) (stores : StoresIndexed schema before all) (same : after.schema ≡ before.schema) where
  -- a space as it was
  pub space_same : after.tuples.entries ≡ before.tuples.entries → after.indexes.items ≡ before.indexes.items → StoresIndexed schema after all
  space_same tuples indexes = record {
    holds = subst (λ s. StoresSpace schema s after.tuples.entries all) (sym same) (subst (λ t. StoresSpace schema before.schema t all) (sym tuples) stores.holds);
    indexes = subst (λ (s : Schema). AllZip (StoresIndex all) s.indexes after.indexes.items) (sym same)
        (subst (AllZip (StoresIndex all) before.schema.indexes) (sym indexes) stores.indexes);
  }

  module _ (primary : IndexDef) (there : index_with 0 before.schema.indexes ≡ Some primary) where
    long : AreLong (length primary.key) all
    long = space_long schema before all primary stores there

    -- a space with a tuple more
    module _ (key : Key) (tuple bytes : List ℕ) (keyed : key_in primary.key tuple ≡ Ok key) (fit : AreFit key) (is : bytes ≡ comparable_of key)
        (tuples : after.tuples.entries ≡ insert_entry (slice_cmp nat_cmp) before.tuples.entries bytes tuple) where
      with_indexes : (indexes : List (List IndexEntry)) → after.indexes.items ≡ indexes → AllZip (StoresIndex (insert all key tuple)) before.schema.indexes indexes
          → StoresIndexed schema after (insert all key tuple)
      with_indexes indexes are each = record {
        holds = record {
          is = stores.holds.is ∙ ap (λ s. Some s) (sym same);
          keeps = stores_put before.tuples.entries after.tuples.entries all key bytes tuple stores.holds.keeps fit is tuples;
          stands = subst (λ (s : Schema). StandByPrimary s (insert all key tuple)) (sym same)
              (stands_after before.schema all key tuple (subst (λ (o : Option IndexDef). IfSome o (λ def. key_in def.key tuple ≡ Ok key)) (sym there) keyed) stores.holds.stands);
        };
        indexes = subst (λ (s : Schema). AllZip (StoresIndex (insert all key tuple)) s.indexes after.indexes.items) (sym same)
            (subst (AllZip (StoresIndex (insert all key tuple)) before.schema.indexes) (sym are) each);
      }

      pub space_with : (changes : List Change) → AllZip (Puts key tuple (get all key)) before.schema.indexes changes
          → after.indexes.items ≡ all_changed bytes changes before.indexes.items → StoresIndexed schema after (insert all key tuple)
      space_with changes puts indexes =
          with_indexes (all_changed (comparable_of key) changes before.indexes.items) (indexes ∙ ap (λ b. all_changed b changes before.indexes.items) is)
          (put_in_all all (length primary.key) long key (key_length primary.key (tuple_of tuple).fields key keyed) tuple before.schema.indexes before.indexes.items changes stores.indexes puts)

      -- the primary index is the only one
      pub space_with_alone : length before.indexes.items < 2 → after.indexes.items ≡ before.indexes.items → StoresIndexed schema after (insert all key tuple)
      space_with_alone one indexes =
          with_indexes before.indexes.items indexes (kept_alone all (insert all key tuple) before.schema.indexes before.indexes.items primary one stores.indexes there)

    -- a space with a tuple less
    module _ (key : Key) (fit : AreFit key) (bytes : List ℕ) (is : bytes ≡ comparable_of key)
        (tuples : after.tuples.entries ≡ remove_entry (is_at (slice_cmp nat_cmp bytes)) before.tuples.entries) where
      left_indexes : (indexes : List (List IndexEntry)) → after.indexes.items ≡ indexes → AllZip (StoresIndex (remove all key)) before.schema.indexes indexes
          → StoresIndexed schema after (remove all key)
      left_indexes indexes are each = record {
        holds = record {
          is = stores.holds.is ∙ ap (λ s. Some s) (sym same);
          keeps = stores_left key before.tuples.entries after.tuples.entries all bytes fit is tuples stores.holds.keeps;
          stands = subst (λ (s : Schema). StandByPrimary s (remove all key)) (sym same)
              (subst (λ (o : Option IndexDef). IfSome o (λ def. StandByKey def.key (remove all key))) (sym there)
              (each_left key (λ entry. key_in primary.key entry.1 ≡ Ok entry.0) all
              (subst (λ (o : Option IndexDef). IfSome o (λ def. StandByKey def.key all)) there stores.holds.stands)));
        };
        indexes = subst (λ (s : Schema). AllZip (StoresIndex (remove all key)) s.indexes after.indexes.items) (sym same)
            (subst (AllZip (StoresIndex (remove all key)) before.schema.indexes) (sym are) each);
      }

      pub space_without : (old : List ℕ) → get all key ≡ Some old → (keys : List (Option (List ℕ))) → AllZip (Removes key old) before.schema.indexes keys
          → after.indexes.items ≡ all_without keys before.indexes.items → StoresIndexed schema after (remove all key)
      space_without old found keys removes indexes =
          let key_long : length key ≡ length primary.key = each_found key (λ entry. length entry.0 ≡ length primary.key) all old found long in
          left_indexes (all_without keys before.indexes.items) indexes
          (removed_from_all all (length primary.key) long key key_long old found before.schema.indexes before.indexes.items keys stores.indexes removes)

      -- the primary index is the only one
      pub space_without_alone : length before.indexes.items < 2 → after.indexes.items ≡ before.indexes.items → StoresIndexed schema after (remove all key)
      space_without_alone one indexes =
          left_indexes before.indexes.items indexes (kept_alone all (remove all key) before.schema.indexes before.indexes.items primary one stores.indexes there)

-- so it is where a tuple was put with its changes
module _ (schema : Option Schema) (before : Space) (all : Tuples) (stores : StoresIndexed schema before all) (primary : IndexDef) (there : index_with 0 before.schema.indexes ≡ Some primary)
    (key : Key) (tuple bytes : List ℕ) (keyed : key_in primary.key tuple ≡ Ok key) (fit : AreFit key) (is : bytes ≡ comparable_of key)
    (changes : List Change) (puts : AllZip (Puts key tuple (get all key)) before.schema.indexes changes) where
  pub put_to_all : {E : Type 0} (result : Result (Unit {0}) E) (after : Space) (indexes were : List (List IndexEntry)) (made : List Change) → after.schema ≡ before.schema
      → after.indexes ≡ with_items before.indexes indexes → were ≡ before.indexes.items → made ≡ changes
      → OnOk result (after.tuples.entries ≡ insert_entry (slice_cmp nat_cmp) before.tuples.entries bytes tuple)
      → OnOk result (indexes ≡ all_changed bytes made were)
      → OnOk result (StoresIndexed schema after (insert all key tuple))
  put_to_all (Ok u) after indexes were made same has as_before as_made put changed =
      space_with schema before after all stores same primary there key tuple bytes keyed fit is put changes puts
      (ap (λ v. v.items) has ∙ items_changed before.indexes indexes bytes changes (changed ∙ (λ i. all_changed bytes (as_made i) (as_before i))))
  put_to_all (Err why) after indexes were made same has as_before as_made put changed = tt

-- ---- what a sound state says of an index of a space in memory

-- what each index has, that of a number has
pub index_has : (P : IndexDef → Type 0) (id : ℕ) (defs : List IndexDef) (def : IndexDef) → index_with id defs ≡ Some def → AllByRecursion P defs → P def
index_has P id [] def there have = absurd cc
index_has P id (first ∷ defs) def there have = by_test (first.id.0 == id) there (λ later. index_has P id defs def later have.1)
  where
    by_test : (b : Bool) → (if b then Some first else index_with id defs) ≡ Some def → (index_with id defs ≡ Some def → P def) → P def
    by_test true here later = let same : first ≡ def = cc in subst P same have.0
    by_test false there later = later there

module _ (state : State) (sound : IsSound state) (id : ℕ) (space : Space) (stores : StoresIndexed (schema_of state id) space (tuples_in state id)) where
  indexed : AreIndexed space.schema (tuples_in state id)
  indexed = let keyed : AreKeyed (Some space.schema) (tuples_in state id) = subst (λ s. AreKeyed s (tuples_in state id)) stores.holds.is (sound.keyed id) in keyed.2

  module _ (def : IndexDef) (there : index_with def.id.0 space.schema.indexes ≡ Some def) where
    pub have_keys : HaveKeys def (tuples_in state id)
    have_keys = index_has (λ one. HaveKeys one (tuples_in state id)) def.id.0 space.schema.indexes def there indexed.have

    pub have_unique : def.unique ≡ true → AreUnique def (tuples_in state id)
    have_unique = index_has (λ one. one.unique ≡ true → AreUnique one (tuples_in state id)) def.id.0 space.schema.indexes def there indexed.unique

  -- the primary keys have one number of parts
  pub are_long : (long : ℕ) × AreLong long (tuples_in state id)
  are_long = by_index (index_with 0 space.schema.indexes) refl
    where
      by_index : (o : Option IndexDef) → index_with 0 space.schema.indexes ≡ o → (long : ℕ) × AreLong long (tuples_in state id)
      by_index None none = (0, subst (AreLong 0) (sym (indexed.primary none)) (each_none (λ entry. length entry.0 ≡ 0)))
      by_index (Some primary) is = let long = primary_long (schema_of state id) space (tuples_in state id) stores in (long.0, long.1 (λ none. some_none (sym is ∙ none)))
        where
          some_none : Some primary ≡ None → ⊥
          some_none e = absurd cc
