-- A write that isn't of the rows of spaces and indexes comes to the same where what it reads met nothing that was touched.
use Rattle.std.proofs.Common.{◌≡◌, ℕ, false, List, [], ◌∷◌, Option, Some, None, Ok, refl, sym, ap, ◌∙◌}
use Rattle.std.specs.Prelude.{◌==◌, if◌then◌else◌}
use Rattle.mx_base.specs.declared.refusal.Refusal.{Refusal}
use Rattle.mx_base.specs.declared.refusal.Refusal.TheVariants.{IndexMissing}
use Rattle.mx_key.specs.Keys.{Key}
use Rattle.mx_row.specs.Rows.{delete_type, insert_type, replace_type, update_type, upsert_type}
use Rattle.mx_schema.specs.declared.index_def.IndexDef.{IndexDef}
use Rattle.mx_schema.specs.declared.schema.Schema.{Schema}
use Rattle.mx_schema.specs.Catalogues.{index_with, schema_of}
use Rattle.mx_schema.specs.IndexRows.{index_in}
use Rattle.mx_schema.specs.Picks.{Indexed}
use Rattle.mx_schema.specs.Sound.{IsSound}
use Rattle.mx_schema.specs.State.{State, index_rows, space_rows}
use Rattle.mx_update.specs.Updates.{updated, upserted}
use Rattle.mx_write.specs.declared.writable.Writer.{Writer}
use Rattle.mx_write.specs.Checks.{tuple_fault}
use Rattle.mx_write.specs.Delete.{delete_found, deletes}
use Rattle.mx_write.specs.Descriptions.{build_fault_by, description_fault, drop_fault, new_index_fault}
use Rattle.mx_write.specs.Insert.{inserts, inserts_taken}
use Rattle.mx_write.specs.Judge.{judged_write}
use Rattle.mx_write.specs.Judged.{Judged, judged_as, reads_of, unless, ◌>>=◌}
use Rattle.mx_write.specs.Lookup.{all_indexes, entry_with, other_indexes, own_key, the_index, the_key, the_primary, the_space, the_unique_index, tuple_under, unless_unique}
use Rattle.mx_write.specs.Made.{Made, made}
use Rattle.std.specs.List.{AllByRecursion}
use Rattle.mx_write.specs.Reads.{index_read, key_read}
use Rattle.mx_write.specs.Replace.{replaces}
use Rattle.mx_write.specs.Unique.{are_free}
use Rattle.mx_write.specs.Update.{key_change, put_in_place, the_operations, tuple_or_refusal, update_found, updates}
use Rattle.mx_write.specs.Upsert.{upsert_found, upserts}
use Rattle.mx_write.specs.Writable.{describes_schema, primary_name, tuple_in_space, write_refusal}
use Rattle.mx_write.specs.Writes.{Write, Insert, Replace, Update, Delete, Upsert}
use Rattle.mx_write.specs.Touches.{Touched}
use Rattle.mx_write.proofs.StageLaws.{came_by, was_found}
use Rattle.mx_model.specs.Frame.{AgreeBut}
use Rattle.mx_model.proofs.FrameCatalogue.{tuples_agree}
use Rattle.mx_model.proofs.FrameLookups.{IsAlike, by_number, entry_same, free_same, others_known, under_same, both_same, in_space_same, index_reads, later_same, unique_index_reads}
use Rattle.mx_model.proofs.FrameTuples.{AreMissed, both_false, missed_parts}

-- ---- what only rows of spaces and indexes are asked

module _ (space : ℕ) (elsewhere : describes_schema space ≡ false) where
  abbrev by_space : (spaces indexes : Option Refusal) → Option Refusal
  by_space spaces indexes = if space == space_rows then spaces else if space == index_rows then indexes else None

  asks_nothing : (spaces indexes : Option Refusal) → by_space spaces indexes ≡ None
  asks_nothing spaces indexes =
      let parts = both_false (space == space_rows) (space == index_rows) elsewhere in
      ap (λ b. if b then spaces else if space == index_rows then indexes else None) parts.0 ∙ ap (λ b. if b then indexes else None) parts.1

  described_same : (one other : State) (tuple : List ℕ) → description_fault other space tuple ≡ description_fault one space tuple
  described_same one other tuple = asks_nothing _ _ ∙ sym (asks_nothing _ _)

  dropped_same : (one other : State) (tuple : List ℕ) → drop_fault other space tuple ≡ drop_fault one space tuple
  dropped_same one other tuple = asks_nothing _ _ ∙ sym (asks_nothing _ _)

  built_same : (one other : State) (tuple : List ℕ) → new_index_fault other space tuple ≡ new_index_fault one space tuple
  built_same one other tuple =
      let is_other = (both_false (space == space_rows) (space == index_rows) elsewhere).1 in
      ap (λ b. if b then build_fault_by other (index_in tuple) else None) is_other ∙ sym (ap (λ b. if b then build_fault_by one (index_in tuple) else None) is_other)

-- a unique index that was found is one of the space's
unique_found : (space : ℕ) (schema : Schema) (index : ℕ) (def : IndexDef) → (the_unique_index space schema index).outcome ≡ Ok def → index_with index schema.indexes ≡ Some def
unique_found space schema index def is =
    let (one, e1, r1) = came_by (the_index space schema index) _ def is in
    let (u, e2, r2) = came_by (unless (unless_unique schema one)) _ def r1 in
    let same : one ≡ def = cc in
    was_found (IndexMissing (record { 0 = index }) schema.def.name) (index_with index schema.indexes) one e1 ∙ ap (λ d. Some d) same

module _ (touched : List Touched) (one other : State) (space : ℕ) (schema : Schema) (alike : IsAlike touched one other space schema) (primary : IndexDef)
    (first : index_with 0 schema.indexes ≡ Some primary) where
  -- ---- stages

  -- the keys of a tuple in these indexes, before stages that look at no state
  free_then : (replaced : Option Key) (tuple : List ℕ) (defs : List IndexDef) → AllByRecursion (λ def. index_with def.id.0 schema.indexes ≡ Some def) defs
      → (before after : Unit {0} → Judged Made) → ((u : Unit {0}) → AreMissed one touched (before u).reads → after u ≡ before u)
      → AreMissed one touched (are_free one space schema primary replaced tuple defs >>= before).reads
      → (are_free other space schema primary replaced tuple defs >>= after) ≡ (are_free one space schema primary replaced tuple defs >>= before)
  free_then replaced tuple defs known before after same missed =
      both_same touched one (are_free one space schema primary replaced tuple defs) (are_free other space schema primary replaced tuple defs) before after
      (free_same touched one other space schema alike primary replaced tuple defs known) (λ u _ later. same u later) missed

  free_made : (replaced : Key) (tuple : List ℕ) (ends : Judged Made)
      → AreMissed one touched (are_free one space schema primary (Some replaced) tuple (other_indexes schema.indexes) >>= λ _. ends).reads
      → (are_free other space schema primary (Some replaced) tuple (other_indexes schema.indexes) >>= λ _. ends)
      ≡ (are_free one space schema primary (Some replaced) tuple (other_indexes schema.indexes) >>= λ _. ends)
  free_made replaced tuple ends =
      free_then (Some replaced) tuple (other_indexes schema.indexes) (others_known touched one other space schema alike) (λ _. ends) (λ _. ends) (λ _ _. refl)

  -- a tuple in the place of another
  place_same : (write : Write) (key : Key) (tuple : List ℕ) (shown : List (List ℕ)) → AreMissed one touched (put_in_place one space schema primary write key tuple shown).reads
      → put_in_place other space schema primary write key tuple shown ≡ put_in_place one space schema primary write key tuple shown
  place_same write key tuple shown missed =
      later_same touched one (unless (tuple_fault schema primary tuple)) _ _
      (λ _ _ after.
      later_same touched one (unless (key_change schema (own_key primary tuple) key)) _ _
      (λ _ _ last. free_made key tuple (made space write key (Some tuple) shown) last) after)
      missed

  -- ---- what each write makes of what it found

  insert_taken_same : describes_schema space ≡ false → (tuple : List ℕ) → AreMissed one touched (inserts_taken one space schema primary tuple).reads
      → inserts_taken other space schema primary tuple ≡ inserts_taken one space schema primary tuple
  insert_taken_same elsewhere tuple missed =
      both_same touched one (unless (description_fault one space tuple)) (unless (description_fault other space tuple)) _ _
      (λ _. ap unless (described_same space elsewhere one other tuple))
      (λ _ _ after.
      free_then None tuple (all_indexes primary schema) (by_number touched one other space schema alike 0 primary first, others_known touched one other space schema alike) _ _
      (λ _ _. ap (λ fault. unless fault >>= λ _. made space (Insert tuple) (own_key primary tuple) (Some tuple) (tuple ∷ [])) (built_same space elsewhere one other tuple)) after)
      missed

  module _ (writer : Writer) (index base : ℕ) (key operations : List ℕ) where
    update_found_same : (entry : Option Indexed) → AreMissed one touched (update_found writer one space index base key operations schema primary entry).reads
        → update_found writer other space index base key operations schema primary entry ≡ update_found writer one space index base key operations schema primary entry
    update_found_same None missed = refl
    update_found_same (Some (own, old)) missed =
        later_same touched one (unless (write_refusal writer space update_type (Some old))) _ _
        (λ _ _ after.
        later_same touched one (the_operations operations) _ _
        (λ applied _ next.
        later_same touched one (judged_as (tuple_in_space writer space (tuple_or_refusal (updated base old applied)))) _ _
        (λ new _ last. place_same (Update index base key operations) own new (new ∷ []) last) next)
        after)
        missed

    delete_found_same : describes_schema space ≡ false → (entry : Option Indexed) → delete_found writer other space index key entry ≡ delete_found writer one space index key entry
    delete_found_same elsewhere None = refl
    delete_found_same elsewhere (Some (own, old)) =
        ap (λ fault. unless (write_refusal writer space delete_type (Some old)) >>= λ _. (unless fault >>= λ _. made space (Delete index key) own None (old ∷ [])))
        (dropped_same space elsewhere one other old)

  module _ (writer : Writer) (base : ℕ) (tuple operations : List ℕ) where
    upsert_found_same : (under : Option (List ℕ)) → AreMissed one touched (upsert_found writer one space base tuple operations schema primary under).reads
        → upsert_found writer other space base tuple operations schema primary under ≡ upsert_found writer one space base tuple operations schema primary under
    upsert_found_same None missed = free_made (own_key primary tuple) tuple (made space (Upsert base tuple operations) (own_key primary tuple) (Some tuple) []) missed
    upsert_found_same (Some old) missed =
        later_same touched one (the_operations operations) _ _
        (λ applied _ next.
        later_same touched one (judged_as (tuple_in_space writer space (tuple_or_refusal (upserted base old applied)))) _ _
        (λ new _ last. place_same (Upsert base tuple operations) (own_key primary tuple) new [] last) next)
        missed

-- ---- the tuple that a key finds in a unique index

-- a write of what is found
abbrev keyed_in : (space index : ℕ) → (key : List ℕ) → Schema → State → (IndexDef → Option Indexed → Judged Made) → IndexDef → Judged Made
keyed_in space index key schema state ends def =
    the_primary schema >>= λ primary. (the_key def key >>= λ asked. (reads_of (key_read space index asked ∷ []) >>= λ _. ends primary (entry_with state space primary def asked)))

module _ (touched : List Touched) (one other : State) (space : ℕ) (schema : Schema) (alike : IsAlike touched one other space schema) (index : ℕ) (key : List ℕ)
    (finish next : IndexDef → Option Indexed → Judged Made) where
  keyed_same : (def : IndexDef) → index_with index schema.indexes ≡ Some def
      → ((primary : IndexDef) → index_with 0 schema.indexes ≡ Some primary → (entry : Option Indexed) → AreMissed one touched (finish primary entry).reads
      → next primary entry ≡ finish primary entry)
      → AreMissed one touched (keyed_in space index key schema one finish def).reads → keyed_in space index key schema other next def ≡ keyed_in space index key schema one finish def
  keyed_same def there same missed =
      later_same touched one (the_primary schema) _ _
      (λ primary is_first after.
      let first = was_found (IndexMissing (record { 0 = 0 }) schema.def.name) (index_with 0 schema.indexes) primary is_first in
      later_same touched one (the_key def key) _ _ (λ asked _ last. by_key primary first asked last) after)
      missed
    where
      by_key : (primary : IndexDef) → index_with 0 schema.indexes ≡ Some primary → (asked : Key)
          → AreMissed one touched (reads_of (key_read space index asked ∷ []) >>= λ _. finish primary (entry_with one space primary def asked)).reads
          → (reads_of (key_read space index asked ∷ []) >>= λ _. next primary (entry_with other space primary def asked))
          ≡ (reads_of (key_read space index asked ∷ []) >>= λ _. finish primary (entry_with one space primary def asked))
      by_key primary first asked missed =
          let parts = missed_parts one touched (key_read space index asked ∷ []) (finish primary (entry_with one space primary def asked)).reads missed in
          let entry = entry_same touched one other space schema alike primary first index def asked there parts.0 in
          ap (λ (judged : Judged Made). reads_of (key_read space index asked ∷ []) >>= λ _. judged)
          (ap (next primary) entry ∙ same primary first (entry_with one space primary def asked) parts.1)

-- ---- whole writes

module _ (touched : List Touched) (one other : State) (agree : AgreeBut touched one other) (sound : IsSound one) (still : IsSound other) (writer : Writer) (space : ℕ)
    (elsewhere : describes_schema space ≡ false) where
  alike_by : (schema : Schema) → schema_of one space ≡ Some schema → schema_of other space ≡ Some schema → AreMissed one touched (index_read space ∷ [])
      → IsAlike touched one other space schema
  alike_by schema is are rows = record { sound = sound; still = still; is = is; are = are; agree = tuples_agree touched one other agree sound space rows }

  -- a write of a tuple, which looks up the primary index and then tests the tuple
  abbrev tupled : State → (type : ℕ) (tuple : List ℕ) → (Schema → IndexDef → Judged Made) → Judged Made
  tupled state type tuple ends =
      the_space state space >>= λ schema. (unless (write_refusal writer space type (Some tuple))
      >>= λ _. (the_index space schema 0 >>= λ primary. (unless (tuple_fault schema primary tuple) >>= λ _. ends schema primary)))

  tupled_same : (type : ℕ) (tuple : List ℕ) (finish next : Schema → IndexDef → Judged Made)
      → ((schema : Schema) → IsAlike touched one other space schema → (primary : IndexDef) → index_with 0 schema.indexes ≡ Some primary
      → AreMissed one touched (finish schema primary).reads → next schema primary ≡ finish schema primary)
      → AreMissed one touched (tupled one type tuple finish).reads → tupled other type tuple next ≡ tupled one type tuple finish
  tupled_same type tuple finish next same missed =
      in_space_same touched one other agree sound space (write_refusal writer space type (Some tuple)) (λ schema. the_index space schema 0)
      (λ schema primary. unless (tuple_fault schema primary tuple) >>= λ _. finish schema primary)
      (λ schema primary. unless (tuple_fault schema primary tuple) >>= λ _. next schema primary)
      (λ schema. index_reads touched one space schema 0)
      (λ schema is are rows looked.
      later_same touched one (the_index space schema 0) _ _
      (λ primary is_first after.
      let first = was_found (IndexMissing (record { 0 = 0 }) schema.def.name) (index_with 0 schema.indexes) primary is_first in
      later_same touched one (unless (tuple_fault schema primary tuple)) _ _ (λ _ _ last. same schema (alike_by schema is are rows) primary first last) after)
      looked)
      missed

  insert_same : (tuple : List ℕ) → AreMissed one touched (inserts writer one space tuple).reads → inserts writer other space tuple ≡ inserts writer one space tuple
  unfolding inserts
  insert_same tuple =
      tupled_same insert_type tuple (λ schema primary. inserts_taken one space schema primary tuple) (λ schema primary. inserts_taken other space schema primary tuple)
      (λ schema alike primary first. insert_taken_same touched one other space schema alike primary first elsewhere tuple)

  replace_same : (tuple : List ℕ) → AreMissed one touched (replaces writer one space tuple).reads → replaces writer other space tuple ≡ replaces writer one space tuple
  unfolding replaces
  replace_same tuple =
      tupled_same replace_type tuple
      (λ schema primary. are_free one space schema primary (Some (own_key primary tuple)) tuple (other_indexes schema.indexes) >>= λ _. ends primary)
      (λ schema primary. are_free other space schema primary (Some (own_key primary tuple)) tuple (other_indexes schema.indexes) >>= λ _. ends primary)
      (λ schema alike primary first. free_made touched one other space schema alike primary first (own_key primary tuple) tuple (ends primary))
    where
      ends : IndexDef → Judged Made
      ends primary = made space (Replace tuple) (own_key primary tuple) (Some tuple) (tuple ∷ [])

  upsert_same : (base : ℕ) (tuple operations : List ℕ) → AreMissed one touched (upserts writer one space base tuple operations).reads
      → upserts writer other space base tuple operations ≡ upserts writer one space base tuple operations
  unfolding upserts
  upsert_same base tuple operations =
      tupled_same upsert_type tuple (ends one) (ends other) by_key
    where
      ends : State → Schema → IndexDef → Judged Made
      ends state schema primary =
          reads_of (key_read space 0 (own_key primary tuple) ∷ [])
          >>= λ _. upsert_found writer state space base tuple operations schema primary (tuple_under state space (own_key primary tuple))

      by_key : (schema : Schema) → IsAlike touched one other space schema → (primary : IndexDef) → index_with 0 schema.indexes ≡ Some primary
          → AreMissed one touched (ends one schema primary).reads → ends other schema primary ≡ ends one schema primary
      by_key schema alike primary first missed =
          let under = tuple_under one space (own_key primary tuple) in
          let parts = missed_parts one touched (key_read space 0 (own_key primary tuple) ∷ []) (upsert_found writer one space base tuple operations schema primary under).reads missed in
          ap (λ (judged : Judged Made). reads_of (key_read space 0 (own_key primary tuple) ∷ []) >>= λ _. judged)
          (ap (upsert_found writer other space base tuple operations schema primary) (under_same touched one other space schema alike primary (own_key primary tuple) first parts.0)
          ∙ upsert_found_same touched one other space schema alike primary first writer base tuple operations under parts.1)

  -- a write by a key, which looks up a unique index
  abbrev found_by : State → (type index : ℕ) (key : List ℕ) → (Schema → IndexDef → Option Indexed → Judged Made) → Judged Made
  found_by state type index key ends =
      the_space state space >>= λ schema. (unless (write_refusal writer space type (primary_name index key))
      >>= λ _. (the_unique_index space schema index >>= keyed_in space index key schema state (ends schema)))

  found_same : (type index : ℕ) (key : List ℕ) (finish next : Schema → IndexDef → Option Indexed → Judged Made)
      → ((schema : Schema) → IsAlike touched one other space schema → (primary : IndexDef) → index_with 0 schema.indexes ≡ Some primary
      → (entry : Option Indexed) → AreMissed one touched (finish schema primary entry).reads → next schema primary entry ≡ finish schema primary entry)
      → AreMissed one touched (found_by one type index key finish).reads → found_by other type index key next ≡ found_by one type index key finish
  found_same type index key finish next same missed =
      in_space_same touched one other agree sound space (write_refusal writer space type (primary_name index key)) (λ schema. the_unique_index space schema index)
      (λ schema. keyed_in space index key schema one (finish schema)) (λ schema. keyed_in space index key schema other (next schema))
      (λ schema. unique_index_reads touched one space schema index)
      (λ schema is are rows looked.
      later_same touched one (the_unique_index space schema index) _ _
      (λ def is_found after.
      let alike = alike_by schema is are rows in
      keyed_same touched one other space schema alike index key (finish schema) (next schema) def (unique_found space schema index def is_found) (same schema alike) after)
      looked)
      missed

  update_same : (index base : ℕ) (key operations : List ℕ) → AreMissed one touched (updates writer one space index base key operations).reads
      → updates writer other space index base key operations ≡ updates writer one space index base key operations
  unfolding updates
  update_same index base key operations =
      found_same update_type index key (update_found writer one space index base key operations) (update_found writer other space index base key operations)
      (λ schema alike primary first. update_found_same touched one other space schema alike primary first writer index base key operations)

  delete_same : (index : ℕ) (key : List ℕ) → AreMissed one touched (deletes writer one space index key).reads → deletes writer other space index key ≡ deletes writer one space index key
  unfolding deletes
  delete_same index key =
      found_same delete_type index key (λ _ _. delete_found writer one space index key) (λ _ _. delete_found writer other space index key)
      (λ schema alike primary first entry _. delete_found_same touched one other space schema alike primary first writer index 0 key [] elsewhere entry)

  -- each write
  pub write_same : (write : Write) → AreMissed one touched (judged_write writer one space write).reads → judged_write writer other space write ≡ judged_write writer one space write
  write_same (Insert tuple) = insert_same tuple
  write_same (Replace tuple) = replace_same tuple
  write_same (Update index base key operations) = update_same index base key operations
  write_same (Delete index key) = delete_same index key
  write_same (Upsert base tuple operations) = upsert_same base tuple operations
