-- No write comes to a conflict or to out of memory by itself.
use Rattle.std.proofs.Common.{ℕ, Bool, true, false, List, [], ◌∷◌, length, Option, Some, None, Result, Ok, Err, ◌≡◌, refl}
use Rattle.std.specs.Prelude.{nat_lt, ◌==◌, ◌&&◌, is_some, if◌then◌else◌}
use Rattle.std.specs.FinMap.{empty, entries, get, insert}
use Rattle.std.specs.Option.{option_map, option_or}
use Rattle.mx_base.specs.declared.refusal.Refusal.TheVariants.{BadIndexRow, BadSpaceRow, PrimaryKeyChanged, TransactionTooLong}
use Rattle.mx_key.specs.declared.fault.NoKey.{NoKey}
use Rattle.mx_key.specs.declared.fault.NoKey.TheVariants.{Missing, Wrong}
use Rattle.mx_key.specs.Keys.{Key}
use Rattle.mx_operations.specs.declared.fault.OperationFault.{OperationFault}
use Rattle.mx_operations.specs.declared.fault.ShapeFault.{ShapeFault}
use Rattle.mx_operations.specs.declared.fault.ShapeFault.TheVariants as shape
use Rattle.mx_operations.specs.Operations as operations
use Rattle.mx_operations.specs.Operations.{operations_in}
use Rattle.mx_row.specs.declared.row.Row.{Row}
use Rattle.mx_row.specs.Rows.{delete_type, insert_type, max_body_size, replace_type, row_body_text, update_type, upsert_type}
use Rattle.mx_schema.specs.declared.index_def.IndexDef.{IndexDef}
use Rattle.mx_schema.specs.declared.index_def.IndexRow.{IndexRow}
use Rattle.mx_schema.specs.declared.schema.Schema.{Schema}
use Rattle.mx_schema.specs.declared.space_def.SpaceDef.{SpaceDef}
use Rattle.mx_schema.specs.Catalogues.{schema_of}
use Rattle.mx_schema.specs.IndexRows.{index_in}
use Rattle.mx_schema.specs.Picks.{Indexed, tuples_by_index}
use Rattle.mx_schema.specs.SchemaChecks.{fields_in, first_number}
use Rattle.mx_schema.specs.SpaceRows.{space_in}
use Rattle.mx_schema.specs.State.{State, Tuples, index_rows, key_in, space_rows, tuples_in}
use Rattle.mx_entries.specs.declared.build_fault.BuildFault.{BuildFault}
use Rattle.mx_entries.specs.declared.build_fault.BuildFault.TheVariants.{Duplicate, LacksKey, NoMemory}
use Rattle.mx_entries.specs.Builds.{build_fault, build_fault_from, row_fault}
use Rattle.mx_update.specs.Updates.{Argument, Failed, Overflow, UpdateFailure, updated, upserted}
use Rattle.mx_update.specs.Updates as update
use Rattle.mx_write.specs.declared.writable.Writer.TheVariants.{Client}
use Rattle.mx_write.specs.Checks.{tuple_fault}
use Rattle.mx_write.specs.Delete.{delete_found, deletes}
use Rattle.mx_write.specs.Descriptions.{build_fault_by, build_fault_on, build_refusal, description_fault, drop_fault, index_drop_fault, index_drop_on, index_fault_beside, index_fault_by, index_fault_on, index_row_fault, lacks_primary, new_index_fault, space_drop_fault, space_drop_on, space_row_fault, unless_indexed, unless_others}
use Rattle.mx_write.specs.Insert.{inserts}
use Rattle.mx_write.specs.Judge.{judged_write}
use Rattle.mx_write.specs.Judged.{Judged, found, judged_as, reads_of, stopped, unless, ◌>>=◌}
use Rattle.mx_write.specs.Lookup.{all_indexes, entry_with, other_indexes, own_key, the_index, the_key, the_primary, the_space, the_unique_index, tuple_under}
use Rattle.mx_write.specs.Made.{Made, made, row_with}
use Rattle.mx_write.specs.Reads.{key_read}
use Rattle.mx_write.specs.Replace.{replaces}
use Rattle.mx_write.specs.Unique.{are_free, is_same_key}
use Rattle.mx_write.specs.Update.{key_change, operations_or_refusal, put_in_place, shape_fault_refusal, the_operations, tuple_or_refusal, update_found, updates}
use Rattle.mx_write.specs.Upsert.{upsert_found, upserts}
use Rattle.mx_write.specs.Writable.{primary_name, write_refusal}
use Rattle.mx_write.specs.Writes.{Delete, Insert, Replace, Update, Upsert, Write}
use Rattle.mx_key.specs.Arrays.{key_array}
use Rattle.mx_model.proofs.ConflictStages.{EndsOther, IsOther, JudgesOther, either_other, frees_other, index_other, is_reserved, key_other, primary_other, space_other, staged, tuple_other, unique_other, unless_other, write_refusal_other}

-- ---- what describes a space or an index

space_row_other : (row : List ℕ) → IsOther (space_row_fault row)
space_row_other row = either_other (is_some (space_in row)) None (Some BadSpaceRow) tt refl

index_row_other : (before : State) (row : List ℕ) → IsOther (index_row_fault before row)
index_row_other before row = by_space (first_number (fields_in row))
  where
    by_row : (schema : Schema) (found : Option IndexRow) → IsOther (index_fault_beside schema.indexes found)
    by_row schema None = refl
    by_row schema (Some found) = either_other (lacks_primary schema.indexes found.def) (Some BadIndexRow) None refl tt

    by_schema : (space : ℕ) (schema : Option Schema) → IsOther (index_fault_on space schema (index_in row))
    by_schema space None = refl
    by_schema space (Some schema) = by_row schema (index_in row)

    by_space : (space : Option ℕ) → IsOther (index_fault_by before (index_in row) space)
    by_space None = refl
    by_space (Some space) = by_schema space (schema_of before space)

description_other : (before : State) (space : ℕ) (tuple : List ℕ) → IsOther (description_fault before space tuple)
description_other before space tuple =
    either_other (space == space_rows) (space_row_fault tuple) _ (space_row_other tuple)
    (either_other (space == index_rows) (index_row_fault before tuple) None (index_row_other before tuple) tt)

-- tuples don't run out of memory
faults_known : (def : IndexDef) (before : Tuples) (others : List Indexed) → build_fault_from def before others ≡ Some NoMemory → ⊥
faults_known def before [] is = absurd cc
faults_known def before (entry ∷ others) is = by_key (key_in def.key entry.1) (faults_known def (insert before entry.0 entry.1) others) is
  where
    by_key : (key : Result Key NoKey) → (build_fault_from def (insert before entry.0 entry.1) others ≡ Some NoMemory → ⊥)
        → option_or (row_fault def before key) (build_fault_from def (insert before entry.0 entry.1) others) ≡ Some NoMemory → ⊥
    by_key (Err why) rest is = absurd cc
    by_key (Ok key) rest is = by_test (def.unique && is_some (get (tuples_by_index def before) key)) is
      where
        by_test : (b : Bool) → option_or (if b then Some Duplicate else None) (build_fault_from def (insert before entry.0 entry.1) others) ≡ Some NoMemory → ⊥
        by_test true is = absurd cc
        by_test false is = rest is

new_index_other : (before : State) (space : ℕ) (tuple : List ℕ) → IsOther (new_index_fault before space tuple)
new_index_other before space tuple = either_other (space == index_rows) (build_fault_by before (index_in tuple)) None (by_row (index_in tuple)) tt
  where
    by_fault : (tuples : Tuples) (schema : Schema) (def : IndexDef) (fault : Option BuildFault) → build_fault def tuples ≡ fault → IsOther (option_map (build_refusal schema def) fault)
    by_fault tuples schema def None is = tt
    by_fault tuples schema def (Some (LacksKey (Missing place))) is = refl
    by_fault tuples schema def (Some (LacksKey (Wrong place expected))) is = refl
    by_fault tuples schema def (Some Duplicate) is = refl
    by_fault tuples schema def (Some NoMemory) is = absurd (faults_known def empty (entries tuples) is)

    by_schema : (tuples : Tuples) (def : IndexDef) (schema : Option Schema) → IsOther (build_fault_on tuples def schema)
    by_schema tuples def None = tt
    by_schema tuples def (Some schema) = by_fault tuples schema def (build_fault def tuples) refl

    by_row : (row : Option IndexRow) → IsOther (build_fault_by before row)
    by_row None = tt
    by_row (Some row) = by_schema (tuples_in before row.space.0) row.def (schema_of before row.space.0)

drop_other : (before : State) (space : ℕ) (tuple : List ℕ) → IsOther (drop_fault before space tuple)
drop_other before space tuple =
    either_other (space == space_rows) (space_drop_fault before (space_in tuple)) _ (by_space (space_in tuple))
    (either_other (space == index_rows) (index_drop_fault before (index_in tuple)) None (by_index (index_in tuple)) tt)
  where
    indexed : (name : List ℕ) (indexes : List IndexDef) → IsOther (unless_indexed name indexes)
    indexed name [] = tt
    indexed name (def ∷ others) = refl

    others_there : (name : List ℕ) (others : List IndexDef) → IsOther (unless_others name others)
    others_there name [] = tt
    others_there name (def ∷ others) = refl

    by_schema : (schema : Option Schema) → IsOther (space_drop_on schema)
    by_schema None = tt
    by_schema (Some schema) = indexed schema.def.name schema.indexes

    by_space : (def : Option SpaceDef) → IsOther (space_drop_fault before def)
    by_space None = tt
    by_space (Some def) = by_schema (schema_of before def.id.0)

    by_schema_of : (index : ℕ) (schema : Option Schema) → IsOther (index_drop_on index schema)
    by_schema_of index None = tt
    by_schema_of index (Some schema) = either_other (index == 0) (unless_others schema.def.name (other_indexes schema.indexes)) None (others_there schema.def.name (other_indexes schema.indexes)) tt

    by_index : (row : Option IndexRow) → IsOther (index_drop_fault before row)
    by_index None = tt
    by_index (Some row) = by_schema_of row.def.id.0 (schema_of before row.space.0)

-- ---- what is made

made_other : (space : ℕ) (write : Write) (key : Key) (tuple : Option (List ℕ)) (shown : List (List ℕ)) → JudgesOther (made space write key tuple shown)
made_other space write key tuple shown = by_test (nat_lt max_body_size (length (row_body_text row)))
  where
    row : Row
    row = row_with space write (key_array key)

    by_test : (b : Bool) → JudgesOther {X = Made}
        (if b then stopped TransactionTooLong else found (record { row = Some row; change = Some (record { space = space; key = key; tuple = tuple }); shown = shown }))
    by_test true = refl
    by_test false = tt

operations_other : (array : List ℕ) → JudgesOther (the_operations array)
operations_other array = by_read (operations_in array)
  where
    by_fault : (place : ℕ) (fault : ShapeFault) → is_reserved (shape_fault_refusal place fault) ≡ false
    by_fault place shape.UnknownOperator = refl
    by_fault place shape.BadArgument = refl

    by_read : (read : Result (List operations.Operation) OperationFault) → EndsOther (operations_or_refusal read)
    by_read (Ok read) = tt
    by_read (Err fault) = by_fault fault.place fault.fault

updated_other : (tuple : Result (List ℕ) UpdateFailure) → EndsOther (tuple_or_refusal tuple)
updated_other (Ok tuple) = tt
updated_other (Err (Failed place Argument)) = refl
updated_other (Err (Failed place Overflow)) = refl
updated_other (Err (update.TooLong bytes)) = refl

put_other : (before : State) (space : ℕ) (schema : Schema) (primary : IndexDef) (write : Write) (key : Key) (tuple : List ℕ) (shown : List (List ℕ))
    → JudgesOther (put_in_place before space schema primary write key tuple shown)
put_other before space schema primary write key tuple shown =
    staged (unless (tuple_fault schema primary tuple)) _ (unless_other _ (tuple_other schema primary tuple)) (λ _.
    staged (unless (key_change schema (own_key primary tuple) key)) _
    (unless_other _ (either_other (is_same_key (own_key primary tuple) key) None (Some (PrimaryKeyChanged schema.def.name)) tt refl)) (λ _.
    staged (are_free before space schema primary (Some key) tuple (other_indexes schema.indexes)) _
    (frees_other before space schema primary (Some key) tuple (other_indexes schema.indexes)) (λ _.
    made_other space write key (Some tuple) shown)))

-- ---- the five writes

module _ (before : State) (space : ℕ) where
  -- a stage behind the look-up of the space and what can't be written
  in_space_other : {X : Type 0} (type : ℕ) (named : Option (List ℕ)) (stage : Schema → Judged X) → ((schema : Schema) → JudgesOther (stage schema))
      → JudgesOther (the_space before space >>= (λ schema. unless (write_refusal Client space type named) >>= (λ _. stage schema)))
  in_space_other type named stage rest =
      staged (the_space before space) _ (space_other before space) (λ schema.
      staged (unless (write_refusal Client space type named)) _ (unless_other _ (write_refusal_other space type named)) (λ _. rest schema))

  -- and behind that of the primary index, where the space takes the tuple
  taken_other : (schema : Schema) (tuple : List ℕ) (stage : IndexDef → Judged Made) → ((primary : IndexDef) → JudgesOther (stage primary))
      → JudgesOther (the_index space schema 0 >>= (λ primary. unless (tuple_fault schema primary tuple) >>= (λ _. stage primary)))
  taken_other schema tuple stage rest =
      staged (the_index space schema 0) _ (index_other space schema 0) (λ primary.
      staged (unless (tuple_fault schema primary tuple)) _ (unless_other _ (tuple_other schema primary tuple)) (λ _. rest primary))

  -- and behind that of a unique index and of a key in it
  found_by_other : (schema : Schema) (index : ℕ) (key : List ℕ) (stage : IndexDef → IndexDef → Key → Judged Made)
      → ((def primary : IndexDef) (asked : Key) → JudgesOther (stage def primary asked))
      → JudgesOther (the_unique_index space schema index >>= (λ def. the_primary schema >>= (λ primary. the_key def key >>= (λ asked.
      reads_of (key_read space index asked ∷ []) >>= (λ _. stage def primary asked)))))
  found_by_other schema index key stage rest =
      staged (the_unique_index space schema index) _ (unique_other space schema index) (λ def.
      staged (the_primary schema) _ (primary_other schema) (λ primary.
      staged (the_key def key) _ (key_other def key) (λ asked. rest def primary asked)))

  insert_other : (tuple : List ℕ) → JudgesOther (inserts Client before space tuple)
  unfolding inserts
  insert_other tuple =
      in_space_other insert_type (Some tuple) _ (λ schema. taken_other schema tuple _ (λ primary.
      staged (unless (description_fault before space tuple)) _ (unless_other _ (description_other before space tuple)) (λ _.
      staged (are_free before space schema primary None tuple (all_indexes primary schema)) _
      (frees_other before space schema primary None tuple (all_indexes primary schema)) (λ _.
      staged (unless (new_index_fault before space tuple)) _ (unless_other _ (new_index_other before space tuple)) (λ _.
      made_other space (Insert tuple) (own_key primary tuple) (Some tuple) (tuple ∷ []))))))

  replace_other : (tuple : List ℕ) → JudgesOther (replaces Client before space tuple)
  unfolding replaces
  replace_other tuple =
      in_space_other replace_type (Some tuple) _ (λ schema. taken_other schema tuple _ (λ primary.
      staged (are_free before space schema primary (Some (own_key primary tuple)) tuple (other_indexes schema.indexes)) _
      (frees_other before space schema primary (Some (own_key primary tuple)) tuple (other_indexes schema.indexes)) (λ _.
      made_other space (Replace tuple) (own_key primary tuple) (Some tuple) (tuple ∷ []))))

  update_other : (index base : ℕ) (key operations : List ℕ) → JudgesOther (updates Client before space index base key operations)
  unfolding updates
  update_other index base key operations =
      in_space_other update_type (primary_name index key) _ (λ schema. found_by_other schema index key _ (λ def primary asked.
      by_entry schema primary (entry_with before space primary def asked)))
    where
      by_entry : (schema : Schema) (primary : IndexDef) (entry : Option Indexed) → JudgesOther (update_found Client before space index base key operations schema primary entry)
      by_entry schema primary None = tt
      by_entry schema primary (Some (own, old)) =
          staged (unless (write_refusal Client space update_type (Some old))) _ (unless_other _ (write_refusal_other space update_type (Some old))) (λ _.
          staged (the_operations operations) _ (operations_other operations) (λ applied.
          staged (judged_as (tuple_or_refusal (updated base old applied))) _ (updated_other (updated base old applied)) (λ new.
          put_other before space schema primary (Update index base key operations) own new (new ∷ []))))

  delete_other : (index : ℕ) (key : List ℕ) → JudgesOther (deletes Client before space index key)
  unfolding deletes
  delete_other index key =
      in_space_other delete_type (primary_name index key) _ (λ schema. found_by_other schema index key _ (λ def primary asked.
      by_entry (entry_with before space primary def asked)))
    where
      by_entry : (entry : Option Indexed) → JudgesOther (delete_found Client before space index key entry)
      by_entry None = tt
      by_entry (Some (own, old)) =
          staged (unless (write_refusal Client space delete_type (Some old))) _ (unless_other _ (write_refusal_other space delete_type (Some old))) (λ _.
          staged (unless (drop_fault before space old)) _ (unless_other _ (drop_other before space old)) (λ _.
          made_other space (Delete index key) own None (old ∷ [])))

  upsert_other : (base : ℕ) (tuple operations : List ℕ) → JudgesOther (upserts Client before space base tuple operations)
  unfolding upserts
  upsert_other base tuple operations =
      in_space_other upsert_type (Some tuple) _ (λ schema. taken_other schema tuple _ (λ primary. by_old schema primary (tuple_under before space (own_key primary tuple))))
    where
      by_old : (schema : Schema) (primary : IndexDef) (old : Option (List ℕ)) → JudgesOther (upsert_found Client before space base tuple operations schema primary old)
      by_old schema primary None =
          staged (are_free before space schema primary (Some (own_key primary tuple)) tuple (other_indexes schema.indexes)) _
          (frees_other before space schema primary (Some (own_key primary tuple)) tuple (other_indexes schema.indexes)) (λ _.
          made_other space (Upsert base tuple operations) (own_key primary tuple) (Some tuple) [])
      by_old schema primary (Some old) =
          staged (the_operations operations) _ (operations_other operations) (λ applied.
          staged (judged_as (tuple_or_refusal (upserted base old applied))) _ (updated_other (upserted base old applied)) (λ new.
          put_other before space schema primary (Upsert base tuple operations) (own_key primary tuple) new []))

  -- a client's write comes to no conflict and not to out of memory
  pub write_other : (write : Write) → JudgesOther (judged_write Client before space write)
  write_other (Insert tuple) = insert_other tuple
  write_other (Replace tuple) = replace_other tuple
  write_other (Update index base key operations) = update_other index base key operations
  write_other (Delete index key) = delete_other index key
  write_other (Upsert base tuple operations) = upsert_other base tuple operations
