-- What is said of a tuple by its fields alone.
use Rattle.std.proofs.Common.{◌≡◌, inl, inr, ℕ, List, [], ◌∷◌, length, Some, Result, Ok, Err, refl, sym, ap, ◌∙◌}
use Rattle.std.specs.Prelude.{false, map, nat_lt, if◌then◌else◌}
use Rattle.std.specs.Option.{unwrap_or}
use Rattle.mx_base.specs.declared.refusal.Refusal.{Refusal}
use Rattle.mx_base.specs.declared.refusal.Refusal.TheVariants.{TupleTooLong}
use Rattle.mx_key.specs.Keys.{Key}
use Rattle.mx_key.specs.Parts.{key_of}
use Rattle.mx_msgpack.specs.Items.{items_of}
use Rattle.mx_operations.specs.Operations.{Operation}
use Rattle.mx_schema.specs.declared.index_def.IndexDef.{IndexDef}
use Rattle.mx_schema.specs.declared.schema.Schema.{Schema}
use Rattle.mx_schema.specs.State.{key_in}
use Rattle.mx_tuple.specs.Fields.{max_tuple_size, tuple_of}
use Rattle.mx_tuple.specs.Formats.{checked}
use Rattle.mx_update.specs.Updates.{◌>>=◌, Sent, fields_after, fields_after_applicable, tuple_of_fields, updated, upserted, within_size}
use Rattle.mx_write.specs.Checks.{format_fault, key_fault, keys_fault, tuple_fault}
use Rattle.mx_write.specs.Judged.{judged_as, next_stage}
use Rattle.mx_write.specs.Lookup.{all_indexes}
use Rattle.mx_write.specs.Stages.{ChecksKey}
use Rattle.mx_write.specs.Update.{the_operations, tuple_or_refusal}

module _ (one other : List ℕ) (same : unwrap_or (items_of one) [] ≡ unwrap_or (items_of other) []) where
  -- ---- its keys

  pub key_by_fields : (def : IndexDef) (key : Key) → key_in def.key other ≡ Ok key → key_in def.key one ≡ Ok key
  key_by_fields def key has = ap (key_of def.key) same ∙ has

  faults_by_fields : (defs : List IndexDef) → keys_fault defs one ≡ keys_fault defs other
  faults_by_fields [] = refl
  faults_by_fields (def ∷ others) = λ i. key_fault (key_of def.key (same i)) (faults_by_fields others i)

  module _ (schema : Schema) (primary : IndexDef) (short : nat_lt max_tuple_size (length other) ≡ false) where
    fault_is : tuple_fault schema primary other ≡ format_fault (checked schema.def.format (tuple_of one).fields) (keys_fault (all_indexes primary schema) one)
    fault_is =
        ap (λ b. if b then Some (TupleTooLong (length other)) else format_fault (checked schema.def.format (tuple_of other).fields) (keys_fault (all_indexes primary schema) other)) short
        ∙ (λ i. format_fault (checked schema.def.format (sym same i)) (sym (faults_by_fields (all_indexes primary schema)) i))

    pub checks_by_fields : (result : Result (List ℕ) Refusal)
        → ChecksKey result (format_fault (checked schema.def.format (tuple_of one).fields) (keys_fault (all_indexes primary schema) one)) primary one
        → ChecksKey result (tuple_fault schema primary other) primary other
    checks_by_fields (Ok bytes) (none, (key, has, fit, is)) = (fault_is ∙ none, (key, ap (key_of primary.key) (sym same) ∙ has, fit, is))
    checks_by_fields (Err why) (inl refuses) = inl (fault_is ∙ refuses)
    checks_by_fields (Err why) (inr none) = inr none

  -- ---- what operations make of it

  module _ (base : ℕ) where
    updated_by_fields : (operations : List Operation) → updated base one operations ≡ updated base other operations
    unfolding updated
    updated_by_fields operations = ap (λ (fields : List (List ℕ)). fields_after base 0 operations (map Sent fields) >>= λ after. within_size (tuple_of_fields after)) same

    upserted_by_fields : (operations : List Operation) → upserted base one operations ≡ upserted base other operations
    unfolding upserted
    upserted_by_fields operations = ap (λ (fields : List (List ℕ)). within_size (tuple_of_fields (fields_after_applicable base operations (map Sent fields)))) same

    pub same_update : (operations : List ℕ)
        → (next_stage [] (the_operations operations).outcome (λ read. judged_as (tuple_or_refusal (updated base one read)))).outcome
        ≡ (next_stage [] (the_operations operations).outcome (λ read. judged_as (tuple_or_refusal (updated base other read)))).outcome
    same_update operations = λ i. (next_stage [] (the_operations operations).outcome (λ read. judged_as (tuple_or_refusal (updated_by_fields read i)))).outcome

    pub same_upsert : (operations : List ℕ)
        → (next_stage [] (the_operations operations).outcome (λ read. judged_as (tuple_or_refusal (upserted base one read)))).outcome
        ≡ (next_stage [] (the_operations operations).outcome (λ read. judged_as (tuple_or_refusal (upserted base other read)))).outcome
    same_upsert operations = λ i. (next_stage [] (the_operations operations).outcome (λ read. judged_as (tuple_or_refusal (upserted_by_fields read i)))).outcome
