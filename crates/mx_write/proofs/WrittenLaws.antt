-- What a write that changes something came by: its space and the primary index, and the key that it changed.
use Rattle.std.proofs.Common.{◌≡◌, ◌⊎◌, inl, inr, ℕ, ◌≤◌, Bool, true, false, List, [], ◌∷◌, length, Option, Some, None, Result, Ok, Err, refl, sym, ap, ◌∙◌}
use Rattle.std.specs.Prelude.{nat_lt, ◌||◌, ◌==◌, if◌then◌else◌}
use Rattle.std.specs.Ordering.{is_eq}
use Rattle.std.specs.declared.cmp.Ordering.{Ordering}
use Rattle.std.specs.declared.cmp.Ordering.TheVariants.{Less, Equal, Greater}
use Rattle.std.proofs.lemmas.Bool.{ltb-false}
use Rattle.std.specs.FinMap.{get}
use Rattle.std.specs.Option.{IfNone}
use Rattle.mx_base.specs.declared.kinds.Unsupported.TheVariants.{SchemaInPlace, SystemSpaceWrite}
use Rattle.mx_base.specs.declared.refusal.Refusal.{Refusal}
use Rattle.mx_base.specs.declared.refusal.Refusal.TheVariants.{IndexMissing, PrimaryKeyChanged, SpaceMissing, TransactionTooLong, TupleTooLong, Unsupported}
use Rattle.mx_key.specs.declared.fault.NoKey.{NoKey}
use Rattle.mx_key.specs.Arrays.{key_array}
use Rattle.mx_key.specs.Keys.{Key, key_cmp}
use Rattle.mx_key.proofs.KeyLaws.{key_cmp-IsAntisymmetric}
use Rattle.mx_msgpack.specs.Items.{items_of}
use Rattle.mx_msgpack.proofs.Options.{mapped_some}
use Rattle.mx_row.specs.declared.row.Row.{Row}
use Rattle.mx_row.specs.Rows.{delete_type, insert_type, max_body_size, replace_type, row_body_text, update_type, upsert_type}
use Rattle.mx_schema.specs.declared.index_def.IndexDef.{IndexDef}
use Rattle.mx_schema.specs.declared.schema.Schema.{Schema}
use Rattle.mx_schema.specs.Bootstrap.{cluster, settings}
use Rattle.mx_schema.specs.Catalogues.{index_with, schema_of}
use Rattle.mx_schema.specs.Picks.{Indexed}
use Rattle.mx_schema.specs.State.{State, key_in, key_or_none, tuples_in}
use Rattle.mx_tuple.specs.declared.checking.FieldFault.{FieldFault}
use Rattle.mx_tuple.specs.Fields.{max_tuple_size, tuple_of}
use Rattle.mx_tuple.specs.Formats.{checked}
use Rattle.mx_update.specs.Updates.{updated, upserted}
use Rattle.mx_write.specs.declared.writable.Writer.{Writer}
use Rattle.mx_write.specs.Checks.{format_fault, key_fault, keys_fault, tuple_fault}
use Rattle.mx_write.specs.Delete.{delete_found, deletes}
use Rattle.mx_write.specs.Descriptions.{description_fault, drop_fault, new_index_fault}
use Rattle.mx_write.specs.Installs.{MayChange, Fits}
use Rattle.mx_write.specs.Insert.{inserts}
use Rattle.mx_write.specs.Judge.{judged_write}
use Rattle.mx_write.specs.Judged.{Judged, found, judged_as, reads_of, stopped, unless, ◌>>=◌}
use Rattle.mx_write.specs.Lookup.{all_indexes, holder_of, is_unique, entry_under, entry_with, other_indexes, own_key, primary_key_with, the_index, the_key, the_primary, the_space, the_unique_index, tuple_under}
use Rattle.mx_write.specs.Made.{Made, made, nothing, row_with}
use Rattle.mx_write.specs.Reads.{key_read}
use Rattle.mx_write.specs.Replace.{replaces}
use Rattle.mx_write.specs.Unique.{are_free, held_refusal, is_free, is_free_if_unique, is_same_key}
use Rattle.mx_write.specs.Update.{key_change, put_in_place, the_operations, tuple_or_refusal, update_found, updates}
use Rattle.mx_write.specs.Upsert.{upsert_found, upserts}
use Rattle.mx_write.specs.Writable.{begins_with_system_number, cluster_refusal, describes_schema, is_read_only, leader_refusal, own_row_refusal, primary_name, schema_refusal, tuple_in_space, write_refusal}
use Rattle.mx_write.specs.Writes.{Write, Insert, Replace, Update, Delete, Upsert}
use Rattle.mx_write.proofs.StageLaws.{came_by, goes_on, passed_so, was_found}
use Rattle.mx_write.proofs.UniqueLaws.{holder_is, tested_first}

-- ---- single stages

-- what is refused nowhere else is so in the two spaces that describe spaces and indexes
abbrev refusal_by : Writer → (space type : ℕ) → (named : Option (List ℕ)) → (describes : Bool) → Option Refusal
refusal_by writer space type named describes =
    if describes then schema_refusal type named
    else if is_read_only space then Some (Unsupported SystemSpaceWrite)
    else if space == cluster then cluster_refusal writer type named
    else if space == settings then leader_refusal writer named
    else None

-- a write in place describes no space and no index
pub in_place_elsewhere : (writer : Writer) (space type : ℕ) (named : Option (List ℕ)) → ((type == insert_type) || (type == delete_type)) ≡ false
    → write_refusal writer space type named ≡ None → describes_schema space ≡ false
in_place_elsewhere writer space type named in_place = by_test (describes_schema space)
  where
    by_rows : (rows : Bool) → rows ≡ false → (if rows then own_row_refusal named else Some (Unsupported SchemaInPlace)) ≡ None → ⊥
    by_rows true e none = absurd cc
    by_rows false e none = absurd cc

    by_test : (b : Bool) → refusal_by writer space type named b ≡ None → b ≡ false
    by_test true e = absurd (by_rows ((type == insert_type) || (type == delete_type)) in_place e)
    by_test false e = refl

-- a row that is added or taken out is a user's
pub of_users : (writer : Writer) (space type : ℕ) (row : List ℕ) → describes_schema space ≡ true → write_refusal writer space type (Some row) ≡ None
    → begins_with_system_number (items_of row) ≡ false
of_users writer space type row describes e =
    by_rows ((type == insert_type) || (type == delete_type)) (ap (refusal_by writer space type (Some row)) (sym describes) ∙ e)
  where
    by_number : (own : Bool) → (if own then Some (Unsupported SystemSpaceWrite) else None) ≡ None → own ≡ false
    by_number true e = absurd cc
    by_number false e = refl

    by_rows : (rows : Bool) → (if rows then own_row_refusal (Some row) else Some (Unsupported SchemaInPlace)) ≡ None → begins_with_system_number (items_of row) ≡ false
    by_rows true e = by_number (begins_with_system_number (items_of row)) e
    by_rows false e = absurd cc

-- a tuple that a space takes has its primary key, and a key in each other index
pub takes_keys : (schema : Schema) (primary : IndexDef) (tuple : List ℕ) → tuple_fault schema primary tuple ≡ None
    → (key_in primary.key tuple ≡ Ok (own_key primary tuple)) × (keys_fault (other_indexes schema.indexes) tuple ≡ None)
takes_keys schema primary tuple = by_size (nat_lt max_tuple_size (length tuple))
  where
    others : Option Refusal
    others = keys_fault (other_indexes schema.indexes) tuple

    by_key : (read : Result Key NoKey) → key_fault read others ≡ None → (read ≡ Ok (key_or_none read)) × (others ≡ None)
    by_key (Ok key) e = (refl, e)
    by_key (Err why) e = absurd cc

    by_format : (met : Result Unit FieldFault) → format_fault met (key_fault (key_in primary.key tuple) others) ≡ None
        → (key_in primary.key tuple ≡ Ok (own_key primary tuple)) × (others ≡ None)
    by_format (Ok met) e = by_key (key_in primary.key tuple) e
    by_format (Err why) e = absurd cc

    by_size : (long : Bool)
        → (if long then Some (TupleTooLong (length tuple)) else format_fault (checked schema.def.format (tuple_of tuple).fields) (key_fault (key_in primary.key tuple) others)) ≡ None
        → (key_in primary.key tuple ≡ Ok (own_key primary tuple)) × (others ≡ None)
    by_size true e = absurd cc
    by_size false e = by_format (checked schema.def.format (tuple_of tuple).fields) e

-- keys that are the same one are equal
pub same_by_order : (one other : Key) → is_same_key one other ≡ true → one ≡ other
same_by_order one other same = by_order (key_cmp one other) refl same
  where
    by_order : (o : Ordering) → key_cmp one other ≡ o → is_eq o ≡ true → one ≡ other
    by_order Less is e = absurd cc
    by_order Equal is e = key_cmp-IsAntisymmetric one other is
    by_order Greater is e = absurd cc

key_stays : (schema : Schema) (one other : Key) → key_change schema one other ≡ None → one ≡ other
key_stays schema one other = by_test (is_same_key one other) refl
  where
    by_test : (b : Bool) → is_same_key one other ≡ b → (if b then None else Some (PrimaryKeyChanged schema.def.name)) ≡ None → one ≡ other
    by_test true same e = same_by_order one other same
    by_test false other e = absurd cc

-- a row that isn't too long
pub makes : (space : ℕ) (write : Write) (key : Key) (tuple : Option (List ℕ)) (shown : List (List ℕ)) (is : Made) → (made space write key tuple shown).outcome ≡ Ok is
    → (length (row_body_text (row_with space write (key_array key))) ≤ max_body_size)
    × (is ≡ record { row = Some (row_with space write (key_array key)); change = Some (record { space = space; key = key; tuple = tuple }); shown = shown })
makes space write key tuple shown is = by_size (nat_lt max_body_size (length (row_body_text (row_with space write (key_array key))))) refl
  where
    the_made : Made
    the_made = record { row = Some (row_with space write (key_array key)); change = Some (record { space = space; key = key; tuple = tuple }); shown = shown }

    by_size : (long : Bool) → nat_lt max_body_size (length (row_body_text (row_with space write (key_array key)))) ≡ long
        → (if long then stopped TransactionTooLong else found the_made).outcome ≡ Ok is
        → (length (row_body_text (row_with space write (key_array key))) ≤ max_body_size) × (is ≡ the_made)
    by_size true test e = absurd cc
    by_size false test e = (ltb-false _ _ test, cc)

-- ---- a write by a key of an index

-- the tuple of an entry stands under the entry's key
pub entry_there : (before : State) (space : ℕ) (primary def : IndexDef) (asked : Key) (own : Key) (old : List ℕ) → entry_with before space primary def asked ≡ Some (own, old)
    → tuple_under before space own ≡ Some old
entry_there before space primary def asked own old = by_key (primary_key_with before space primary def asked)
  where
    by_key : (key : Option Key) → entry_under before space key ≡ Some (own, old) → tuple_under before space own ≡ Some old
    by_key None e = absurd cc
    by_key (Some key) e =
        let m = mapped_some (λ (tuple : List ℕ). (key, tuple)) (tuple_under before space key) (own, old) e in
        let same_own : key ≡ own = ap (λ (entry : Indexed). entry.0) m.2 in
        let same_old : m.0 ≡ old = ap (λ (entry : Indexed). entry.1) m.2 in
        ap (tuple_under before space) (sym same_own) ∙ m.1 ∙ ap Some same_old

-- a stage after the entry of a key is looked up
abbrev pub Sought : Type 0
Sought = Schema → IndexDef → Option Indexed → Judged Made

-- the stages of a write by a key of an index, which UPDATE and DELETE have in common
abbrev pub sought_by : Writer → State → (space type index : ℕ) → (key : List ℕ) → Sought → Judged Made
sought_by writer before space type index key stage = do
  schema ← the_space before space
  _ ← unless (write_refusal writer space type (primary_name index key))
  def ← the_unique_index space schema index
  primary ← the_primary schema
  asked ← the_key def key
  _ ← reads_of (key_read space index asked ∷ [])
  stage schema primary (entry_with before space primary def asked)

-- what it went on with
pub record SoughtSo (writer : Writer) (before : State) (space type index : ℕ) (key : List ℕ) (stage : Sought) (is : Made) : Type 0 where
  pub schema : Schema
  pub primary : IndexDef
  pub def : IndexDef
  pub asked : Key
  pub described : schema_of before space ≡ Some schema
  pub there : index_with 0 schema.indexes ≡ Some primary
  pub writable : write_refusal writer space type (primary_name index key) ≡ None
  pub rest : (stage schema primary (entry_with before space primary def asked)).outcome ≡ Ok is

pub sought_so : (writer : Writer) (before : State) (space type index : ℕ) (key : List ℕ) (stage : Sought) (is : Made)
    → (sought_by writer before space type index key stage).outcome ≡ Ok is → SoughtSo writer before space type index key stage is
sought_so writer before space type index key stage is e =
    let (schema, e1, r1) = came_by (the_space before space) _ is e in
    let (u2, e2, r2) = came_by (unless (write_refusal writer space type (primary_name index key))) _ is r1 in
    let (def, e3, r3) = came_by (the_unique_index space schema index) _ is r2 in
    let (primary, e4, r4) = came_by (the_primary schema) _ is r3 in
    let (asked, e5, r5) = came_by (the_key def key) _ is r4 in
    record {
      schema = schema;
      primary = primary;
      def = def;
      asked = asked;
      described = was_found (SpaceMissing (record { 0 = space })) (schema_of before space) schema e1;
      there = was_found (IndexMissing (record { 0 = 0 }) schema.def.name) (index_with 0 schema.indexes) primary e4;
      writable = passed_so _ u2 e2;
      rest = r5;
    }

-- ---- what each write came by

-- the key of a write: that of the tuple that it has, or one that a tuple stands under
abbrev pub IsKeyOfWrite : State → (space : ℕ) → (primary : IndexDef) → Write → Key → Type 0
IsKeyOfWrite before space primary (Insert tuple) key = key_in primary.key tuple ≡ Ok key
IsKeyOfWrite before space primary (Replace tuple) key = key_in primary.key tuple ≡ Ok key
IsKeyOfWrite before space primary (Update index base asked operations) key = (old : List ℕ) × (tuple_under before space key ≡ Some old)
IsKeyOfWrite before space primary (Delete index asked) key = (old : List ℕ) × (tuple_under before space key ≡ Some old)
IsKeyOfWrite before space primary (Upsert base tuple operations) key = key_in primary.key tuple ≡ Ok key

pub record Wrote (before : State) (space : ℕ) (write : Write) (is : Made) : Type 0 where
  pub key : Key
  pub tuple : Option (List ℕ)
  pub shown : List (List ℕ)
  pub changes : MayChange before space key tuple
  pub key_is : IsKeyOfWrite before space changes.primary write key
  pub shows : IfNone tuple ((old : List ℕ) × (tuple_under before space key ≡ Some old) × (shown ≡ old ∷ []))
  pub made : (made space write key tuple shown).outcome ≡ Ok is

-- ---- a tuple that was put

-- where no other tuple has its keys, none has them but the one in whose place it is put
module _ (before : State) (space : ℕ) (schema : Schema) (primary : IndexDef) (key : Key) (tuple : List ℕ) where
  free_still : (def : IndexDef) (is : Bool) → (if is then is_free before space schema primary None tuple def else found tt).outcome ≡ Ok tt
      → (if is then is_free before space schema primary (Some key) tuple def else found tt).outcome ≡ Ok tt
  free_still def false e = refl
  free_still def true e = by_holder (holder_of before space def (own_key def tuple)) (passed_so _ tt e)
    where
      by_holder : (holder : Option (List ℕ)) → held_refusal before space schema primary None tuple def holder ≡ None
          → (unless (held_refusal before space schema primary (Some key) tuple def holder)).outcome ≡ Ok tt
      by_holder None e = refl
      by_holder (Some held) e = absurd cc

  -- also of some of the indexes
  all_free_still : (defs : List IndexDef) → (are_free before space schema primary None tuple defs).outcome ≡ Ok tt
      → (are_free before space schema primary (Some key) tuple defs).outcome ≡ Ok tt
  all_free_still [] e = refl
  all_free_still (def ∷ defs) e =
      let (u, first, rest) = came_by (is_free_if_unique before space schema primary None tuple def) _ tt e in
      goes_on (is_free_if_unique before space schema primary (Some key) tuple def) _ tt (free_still def (is_unique def) first) ∙ all_free_still defs rest

  -- an INSERT finds the primary key free
  first_free : index_with 0 schema.indexes ≡ Some primary → key_in primary.key tuple ≡ Ok key
      → (is_free_if_unique before space schema primary None tuple primary).outcome ≡ Ok tt → get (tuples_in before space) key ≡ None
  first_free there own e =
      sym (holder_is before space schema primary tuple there key)
      ∙ by_holder (holder_of before space primary key)
      (ap (λ k. held_refusal before space schema primary None tuple primary (holder_of before space primary k)) (sym (ap key_or_none own))
      ∙ passed_so _ tt (sym (tested_first before space schema primary tuple there) ∙ e))
    where
      by_holder : (holder : Option (List ℕ)) → held_refusal before space schema primary None tuple primary holder ≡ None → holder ≡ None
      by_holder None e = refl
      by_holder (Some held) e = absurd cc

-- so it does where all indexes are free
pub own_free : (before : State) (space : ℕ) (schema : Schema) (primary : IndexDef) (key : Key) (tuple : List ℕ) → index_with 0 schema.indexes ≡ Some primary
    → key_in primary.key tuple ≡ Ok key → (are_free before space schema primary None tuple (all_indexes primary schema)).outcome ≡ Ok tt → get (tuples_in before space) key ≡ None
own_free before space schema primary key tuple there own e =
    let (u, first, rest) = came_by (is_free_if_unique before space schema primary None tuple primary) _ tt e in
    first_free before space schema primary key tuple there own first

-- a space that describes nothing, or the two that do
pub by_space : {P : Type 0} (space : ℕ) → (describes_schema space ≡ false → P) → (describes_schema space ≡ true → P) → P
by_space space elsewhere here = by_test (describes_schema space) refl elsewhere here
  where
    by_test : {P : Type 0} (b : Bool) → describes_schema space ≡ b → (describes_schema space ≡ false → P) → (describes_schema space ≡ true → P) → P
    by_test true e elsewhere here = here e
    by_test false e elsewhere here = elsewhere e

module _ (writer : Writer) (before : State) (space : ℕ) (is : Made) where
  inserted : (tuple : List ℕ) → (inserts writer before space tuple).outcome ≡ Ok is → Wrote before space (Insert tuple) is
  unfolding inserts
  inserted tuple e =
      let (schema, e1, r1) = came_by (the_space before space) _ is e in
      let (u2, e2, r2) = came_by (unless (write_refusal writer space insert_type (Some tuple))) _ is r1 in
      let (primary, e3, r3) = came_by (the_index space schema 0) _ is r2 in
      let (u4, e4, r4) = came_by (unless (tuple_fault schema primary tuple)) _ is r3 in
      let (u5, e5, r5) = came_by (unless (description_fault before space tuple)) _ is r4 in
      let (u6, e6, r6) = came_by (are_free before space schema primary None tuple (all_indexes primary schema)) _ is r5 in
      let (u7, e7, r7) = came_by (unless (new_index_fault before space tuple)) _ is r6 in
      let (own, others) = takes_keys schema primary tuple (passed_so _ u4 e4) in
      let (u8, first, rest) = came_by (is_free_if_unique before space schema primary None tuple primary) _ tt e6 in
      let there = was_found (IndexMissing (record { 0 = 0 }) schema.def.name) (index_with 0 schema.indexes) primary e3 in
      record {
        key = own_key primary tuple;
        tuple = Some tuple;
        shown = tuple ∷ [];
        changes = record {
          schema = schema;
          primary = primary;
          described = was_found (SpaceMissing (record { 0 = space })) (schema_of before space) schema e1;
          there = there;
          fits = record {
            own = own;
            keyed = others;
            free = all_free_still before space schema primary (own_key primary tuple) tuple (other_indexes schema.indexes) rest;
          };
          kind = by_space space (λ elsewhere. inl elsewhere) (λ describes. inr (record {
            described = passed_so _ u5 e5;
            made = passed_so _ u7 e7;
            absent = first_free before space schema primary (own_key primary tuple) tuple there own first;
            of_user = of_users writer space insert_type tuple describes (passed_so _ u2 e2);
          }));
        };
        key_is = own;
        shows = tt;
        made = r7;
      }

  replaced : (tuple : List ℕ) → (replaces writer before space tuple).outcome ≡ Ok is → Wrote before space (Replace tuple) is
  unfolding replaces
  replaced tuple e =
      let (schema, e1, r1) = came_by (the_space before space) _ is e in
      let (u2, e2, r2) = came_by (unless (write_refusal writer space replace_type (Some tuple))) _ is r1 in
      let (primary, e3, r3) = came_by (the_index space schema 0) _ is r2 in
      let (u4, e4, r4) = came_by (unless (tuple_fault schema primary tuple)) _ is r3 in
      let (u5, e5, r5) = came_by (are_free before space schema primary (Some (own_key primary tuple)) tuple (other_indexes schema.indexes)) _ is r4 in
      let (own, others) = takes_keys schema primary tuple (passed_so _ u4 e4) in
      record {
        key = own_key primary tuple;
        tuple = Some tuple;
        shown = tuple ∷ [];
        changes = record {
          schema = schema;
          primary = primary;
          described = was_found (SpaceMissing (record { 0 = space })) (schema_of before space) schema e1;
          there = was_found (IndexMissing (record { 0 = 0 }) schema.def.name) (index_with 0 schema.indexes) primary e3;
          fits = record { own = own; keyed = others; free = e5 };
          kind = inl (in_place_elsewhere writer space replace_type (Some tuple) refl (passed_so _ u2 e2));
        };
        key_is = own;
        shows = tt;
        made = r5;
      }

  -- a tuple in the place of another one has its key
  pub placed : (schema : Schema) (primary : IndexDef) (write : Write) (key : Key) (tuple : List ℕ) (shown : List (List ℕ))
      → (put_in_place before space schema primary write key tuple shown).outcome ≡ Ok is
      → Fits before space schema primary key tuple × ((made space write key (Some tuple) shown).outcome ≡ Ok is)
  placed schema primary write key tuple shown e =
      let (u1, e1, r1) = came_by (unless (tuple_fault schema primary tuple)) _ is e in
      let (u2, e2, r2) = came_by (unless (key_change schema (own_key primary tuple) key)) _ is r1 in
      let (u3, e3, r3) = came_by (are_free before space schema primary (Some key) tuple (other_indexes schema.indexes)) _ is r2 in
      let (own, others) = takes_keys schema primary tuple (passed_so _ u1 e1) in (
        record {
          own = own ∙ ap (λ k. Ok k) (key_stays schema (own_key primary tuple) key (passed_so _ u2 e2));
          keyed = others;
          free = e3;
        },
        r3,
      )

  updated_so : (index base : ℕ) (key operations : List ℕ) → (updates writer before space index base key operations).outcome ≡ Ok is
      → (is ≡ nothing) ⊎ Wrote before space (Update index base key operations) is
  unfolding updates
  updated_so index base key operations e =
      let so = sought_so writer before space update_type index key (update_found writer before space index base key operations) is e in
      by_entry so (entry_with before space so.primary so.def so.asked) refl so.rest
    where
      by_entry : (so : SoughtSo writer before space update_type index key (update_found writer before space index base key operations) is) (entry : Option Indexed)
          → entry_with before space so.primary so.def so.asked ≡ entry
          → (update_found writer before space index base key operations so.schema so.primary entry).outcome ≡ Ok is
          → (is ≡ nothing) ⊎ Wrote before space (Update index base key operations) is
      by_entry so None at e = inl cc
      by_entry so (Some (own, old)) at e =
          let (u1, e1, r1) = came_by (unless (write_refusal writer space update_type (Some old))) _ is e in
          let (applied, e2, r2) = came_by (the_operations operations) _ is r1 in
          let (new, e3, r3) = came_by (judged_as (tuple_in_space writer space (tuple_or_refusal (updated base old applied)))) _ is r2 in
          let put = placed so.schema so.primary (Update index base key operations) own new (new ∷ []) r3 in
          inr (record {
            key = own;
            tuple = Some new;
            shown = new ∷ [];
            changes = record {
              schema = so.schema;
              primary = so.primary;
              described = so.described;
              there = so.there;
              fits = put.0;
              kind = inl (in_place_elsewhere writer space update_type (Some old) refl (passed_so _ u1 e1));
            };
            key_is = (old, entry_there before space so.primary so.def so.asked own old at);
            shows = tt;
            made = put.1;
          })

  deleted : (index : ℕ) (key : List ℕ) → (deletes writer before space index key).outcome ≡ Ok is → (is ≡ nothing) ⊎ Wrote before space (Delete index key) is
  unfolding deletes
  deleted index key e =
      let so = sought_so writer before space delete_type index key (λ schema primary. delete_found writer before space index key) is e in
      by_entry so (entry_with before space so.primary so.def so.asked) refl so.rest
    where
      by_entry : (so : SoughtSo writer before space delete_type index key (λ schema primary. delete_found writer before space index key) is) (entry : Option Indexed)
          → entry_with before space so.primary so.def so.asked ≡ entry → (delete_found writer before space index key entry).outcome ≡ Ok is
          → (is ≡ nothing) ⊎ Wrote before space (Delete index key) is
      by_entry so None at e = inl cc
      by_entry so (Some (own, old)) at e =
          let (u1, e1, r1) = came_by (unless (write_refusal writer space delete_type (Some old))) _ is e in
          let (u2, e2, r2) = came_by (unless (drop_fault before space old)) _ is r1 in
          let stands = entry_there before space so.primary so.def so.asked own old at in
          inr (record {
            key = own;
            tuple = None;
            shown = old ∷ [];
            changes = record {
              schema = so.schema;
              primary = so.primary;
              described = so.described;
              there = so.there;
              fits = tt;
              kind = by_space space (λ elsewhere. inl elsewhere) (λ describes. inr (record {
                row = old;
                there = stands;
                may = passed_so _ u2 e2;
                of_user = of_users writer space delete_type old describes (passed_so _ u1 e1);
              }));
            };
            key_is = (old, stands);
            shows = (old, stands, refl);
            made = r2;
          })

  upserted_so : (base : ℕ) (tuple operations : List ℕ) → (upserts writer before space base tuple operations).outcome ≡ Ok is → Wrote before space (Upsert base tuple operations) is
  unfolding upserts
  upserted_so base tuple operations e =
      let (schema, e1, r1) = came_by (the_space before space) _ is e in
      let (u2, e2, r2) = came_by (unless (write_refusal writer space upsert_type (Some tuple))) _ is r1 in
      let (primary, e3, r3) = came_by (the_index space schema 0) _ is r2 in
      let (u4, e4, r4) = came_by (unless (tuple_fault schema primary tuple)) _ is r3 in
      let (own, others) = takes_keys schema primary tuple (passed_so _ u4 e4) in
      let put = by_old schema primary own others (tuple_under before space (own_key primary tuple)) r4 in
      record {
        key = own_key primary tuple;
        tuple = Some put.0;
        shown = [];
        changes = record {
          schema = schema;
          primary = primary;
          described = was_found (SpaceMissing (record { 0 = space })) (schema_of before space) schema e1;
          there = was_found (IndexMissing (record { 0 = 0 }) schema.def.name) (index_with 0 schema.indexes) primary e3;
          fits = put.1;
          kind = inl (in_place_elsewhere writer space upsert_type (Some tuple) refl (passed_so _ u2 e2));
        };
        key_is = own;
        shows = tt;
        made = put.2;
      }
    where
      by_old : (schema : Schema) (primary : IndexDef) → key_in primary.key tuple ≡ Ok (own_key primary tuple) → keys_fault (other_indexes schema.indexes) tuple ≡ None → (old : Option (List ℕ))
          → (upsert_found writer before space base tuple operations schema primary old).outcome ≡ Ok is
          → (put : List ℕ) × Fits before space schema primary (own_key primary tuple) put
          × ((made space (Upsert base tuple operations) (own_key primary tuple) (Some put) []).outcome ≡ Ok is)
      by_old schema primary own others None e =
          let (u1, e1, r1) = came_by (are_free before space schema primary (Some (own_key primary tuple)) tuple (other_indexes schema.indexes)) _ is e in
          (tuple, record { own = own; keyed = others; free = e1 }, r1)
      by_old schema primary own others (Some old) e =
          let (applied, e1, r1) = came_by (the_operations operations) _ is e in
          let (new, e2, r2) = came_by (judged_as (tuple_in_space writer space (tuple_or_refusal (upserted base old applied)))) _ is r1 in
          let put = placed schema primary (Upsert base tuple operations) (own_key primary tuple) new [] r2 in
          (new, put.0, put.1)

  -- a write finds nothing that it could change, or changes something
  pub wrote : (write : Write) → (judged_write writer before space write).outcome ≡ Ok is → (is ≡ nothing) ⊎ Wrote before space write is
  wrote (Insert tuple) e = inr (inserted tuple e)
  wrote (Replace tuple) e = inr (replaced tuple e)
  wrote (Update index base key operations) e = updated_so index base key operations e
  wrote (Delete index key) e = deleted index key e
  wrote (Upsert base tuple operations) e = inr (upserted_so base tuple operations e)

  -- what leaves a row
  pub wrote_row : (write : Write) (row : Row) → (judged_write writer before space write).outcome ≡ Ok is → is.row ≡ Some row → Wrote before space write is
  wrote_row write row e left = by_case (wrote write e)
    where
      by_case : (is ≡ nothing) ⊎ Wrote before space write is → Wrote before space write is
      by_case (inl none) = let no : ◌≡◌ {A = Option Row} None (Some row) = ap (λ (m : Made). m.row) (sym none) ∙ left in absurd cc
      by_case (inr so) = so
