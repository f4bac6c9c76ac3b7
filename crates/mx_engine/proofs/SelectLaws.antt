-- What a SELECT is answered, by the first test that it fails.
use Rattle.std.proofs.Common.{◌≡◌, ◌≢◌, ◌⊎◌, inl, inr, ℕ, ◌≤◌, Bool, true, false, List, [], ◌∷◌, length, refl, sym, ap, ◌∙◌, subst, Option}
use Rattle.std.specs.Option.{option_map, unwrap_or}
use Rattle.std.specs.Prelude.{Result, Ok, Err, IfSome, ◌==◌, Some, None, if◌then◌else◌}
use Rattle.std.proofs.lemmas.Bool.{eqb-true}
use Rattle.mx_base.specs.declared.refusal.Refusal.{Refusal}
use Rattle.mx_base.specs.declared.kinds.Unsupported.TheVariants.{HashIterator}
use Rattle.mx_base.specs.declared.refusal.Refusal.TheVariants.{OutOfMemory, ResultTooLong, SpaceMissing, IndexMissing, Unsupported}
use Rattle.mx_model.specs.declared.reply.Reply.TheVariants.{Tuples, Refused}
use Rattle.mx_key.specs.declared.iterator.IterKind.{IterKind}
use Rattle.mx_key.specs.declared.fault.Misfit.{Misfit}
use Rattle.mx_msgpack.specs.Items.{items_of}
use Rattle.mx_key.specs.Comparable.{edges_of}
use Rattle.mx_key.specs.Keys.{Key, AreFit}
use Rattle.mx_key.specs.Parts.{key_of_array, whole_key_of_items}
use Rattle.mx_key.specs.Ranges.{Range, AreFitEnds, range_of}
use Rattle.mx_schema.specs.declared.index_def.IndexDef.{IndexDef}
use Rattle.mx_schema.specs.declared.index_def.IndexKind.{IndexKind}
use Rattle.mx_schema.specs.declared.index_def.IndexKind.TheVariants.{Tree, Hash}
use Rattle.mx_schema.specs.declared.schema.Schema.{Schema}
use Rattle.mx_schema.specs.Catalogues.{index_with, schema_of}
use Rattle.mx_key.specs.declared.edge.KeyRange.{KeyRange}
use Rattle.mx_key.specs.declared.part.Part.{Part}
use Rattle.mx_schema.specs.Picks.{entries_of, total_bytes, max_result_size}
use Rattle.mx_schema.specs.State.{State, source_of}
use Rattle.mx_entries.specs.Scans.{SelectsByKey, picked_of}
use Rattle.mx_entries.specs.declared.pick.Pick.{Pick}
use Rattle.mx_entries.specs.declared.pick.SelectFault.{SelectFault}
use Rattle.mx_entries.specs.declared.pick.SelectFault.TheVariants as faults
use Rattle.mx_write.specs.Lookup.{misfit_refusal}
use Rattle.mx_model.specs.SelectSteps.{RefusesKey, TakesKey}
use Rattle.mx_model.specs.statements.Select.{asked_key, key_by_kind, part_count, range_reads, select_answer_in, select_by_key, select_in_index, takes_iterator}
use Rattle.mx_write.specs.Notes.{AddsReads, Noted}
use Rattle.mx_write.specs.Reads.{index_read, schema_reads, space_read}
use Rattle.mx_write.proofs.NoteLaws.{adds_both}
use Rattle.mx_model.specs.statements.Answer.{Answer, refusal_after}
use Rattle.mx_model.proofs.AnswerLaws.{select_misses_space, select_misses_index, key_is_misfit, key_is_refused, tuples_are_picked, result_is_too_long}
use Rattle.mx_engine.specs.SelectFaults.{IsFaultRefusal}
use Rattle.mx_engine.specs.Steps.{IsReplyOf}

-- ---- a key that has the same parts

-- an index is asked the same by it
module _ (before : State) (space limit offset : ℕ) (iterator : IterKind) (key sought : List ℕ)
    (items : unwrap_or (items_of sought) [] ≡ unwrap_or (items_of key) []) (same : (parts : List Part) → key_of_array parts sought ≡ key_of_array parts key) where
  same_key : (kind : IndexKind) (parts : List Part) → key_by_kind kind parts sought ≡ key_by_kind kind parts key
  same_key Tree parts = same parts
  same_key Hash parts = ap (λ items. if length items == 0 then Ok [] else whole_key_of_items parts items) items

  same_asked : (def : IndexDef) → select_in_index before space limit offset iterator sought def ≡ select_in_index before space limit offset iterator key def
  same_asked def = ap (λ items. by_key (length items) (asked_key def sought)) items ∙ ap (by_key (part_count key)) (same_key def.kind def.key)
    where
      by_key : (parts : ℕ) → Result Key Misfit → Answer
      by_key parts asked =
          if takes_iterator def.kind iterator parts then select_by_key before space limit offset iterator def asked
          else refusal_after (schema_reads space) (Unsupported HashIterator)

-- it has the number that was asked for
numbered : (id : ℕ) (indexes : List IndexDef) (def : IndexDef) → index_with id indexes ≡ Some def → def.id.0 ≡ id
numbered id [] def is = absurd cc
numbered id (first ∷ others) def is = by_test (first.id.0 == id) refl (numbered id others def) is
  where
    by_test : (b : Bool) → (first.id.0 == id) ≡ b → (index_with id others ≡ Some def → def.id.0 ≡ id)
        → (if b then Some first else index_with id others) ≡ Some def → def.id.0 ≡ id
    by_test true same later found =
        let this : first ≡ def = cc in
        ap (λ (d : IndexDef). d.id.0) (sym this) ∙ eqb-true first.id.0 id same
    by_test false other later found = later found

pub found_by_number : (id : ℕ) (schema shown : Schema) (def : IndexDef) → shown ≡ schema → index_with id shown.indexes ≡ Some def → index_with def.id.0 schema.indexes ≡ Some def
found_by_number id schema shown def same found =
    let there : index_with id schema.indexes ≡ Some def = ap (λ (s : Schema). index_with id s.indexes) (sym same) ∙ found in
    ap (λ n. index_with n schema.indexes) (numbered id schema.indexes def there) ∙ there

-- ---- the first test that it fails

module _ (before : State) (space index : ℕ) (wanted : Pick) where
  abbrev select : Answer
  select = select_answer_in before space index wanted.limit wanted.offset wanted.iterator wanted.key.now

  -- the space is missing
  pub tells_no_space : (refusal : Refusal) → (schema_of before space ≡ None) × (refusal ≡ SpaceMissing (record { 0 = space })) → IsReplyOf (Refused refusal) select
  tells_no_space refusal (none, is) =
      inl (ap (λ r. Refused r) is ∙ sym (ap (λ a. a.reply) (select_misses_space before space index wanted.limit wanted.offset wanted.iterator wanted.key.now none)))

  module _ (schema shown : Schema) (described : schema_of before space ≡ Some schema) (same : shown ≡ schema) where
    -- the index is missing
    pub tells_no_index : (refusal : Refusal)
        → ((index_with index shown.indexes ≡ None) × (refusal ≡ IndexMissing (record { 0 = index }) shown.def.name)) ⊎ (refusal ≡ OutOfMemory)
        → IsReplyOf (Refused refusal) select
    tells_no_index refusal (inl (none, is)) =
        inl (ap (λ r. Refused r) (is ∙ ap (λ (s : Schema). IndexMissing (record { 0 = index }) s.def.name) same)
        ∙ sym (ap (λ a. a.reply) (select_misses_index before space index wanted.limit wanted.offset wanted.iterator wanted.key.now schema described
        (ap (λ (s : Schema). index_with index s.indexes) (sym same) ∙ none))))
    tells_no_index refusal (inr none) = inr (ap (λ r. Refused r) none)

    -- it is there
    module _ (def : IndexDef) (found : index_with index shown.indexes ≡ Some def) where
      there : index_with index schema.indexes ≡ Some def
      there = ap (λ (s : Schema). index_with index s.indexes) (sym same) ∙ found

      -- it refuses the key
      pub tells_refusal : (refusal : Refusal) → RefusesKey def wanted.iterator wanted.key.now refusal ⊎ (refusal ≡ OutOfMemory) → IsReplyOf (Refused refusal) select
      tells_refusal refusal (inl refuses) =
          inl (sym (ap (λ a. a.reply) (key_is_refused before space index wanted.limit wanted.offset wanted.iterator wanted.key.now schema described def there refusal refuses)))
      tells_refusal refusal (inr none) = inr (ap (λ r. Refused r) none)

      -- it takes the key
      module _ (taken : TakesKey def wanted.iterator wanted.key.now) where
        -- and these tuples were found
        pub tells_tuples : (tuples : List (List ℕ)) (read : Option KeyRange) → SelectsByKey (entries_of before space def) def wanted tuples (Ok read) → IsReplyOf (Tuples tuples) select
        tells_tuples tuples read (fitting, fits, fit, is, few, _, _) =
            inl (ap (λ t. Tuples t) is
            ∙ sym (ap (λ a. a.reply) (tuples_are_picked before space index wanted.limit wanted.offset wanted.iterator wanted.key.now schema described def there taken fitting fits
            (subst (λ t. total_bytes t ≤ max_result_size) is few))))

        -- or none, for this reason
        module _ (tuples : List (List ℕ)) (fault : SelectFault) (tells : SelectsByKey (entries_of before space def) def wanted tuples (Err fault)) where
          tells_misfit : (misfit : Misfit) (refusal : Refusal) → fault ≡ faults.Misfit misfit
              → ((key : List ℕ) → key_of_array def.key key ≡ Err misfit → refusal ≡ misfit_refusal (length def.key) misfit) → IsReplyOf (Refused refusal) select
          tells_misfit misfit refusal is told = by_fault tells
            where
              by_fault : SelectsByKey (entries_of before space def) def wanted tuples (Err fault) → IsReplyOf (Refused refusal) select
              by_fault (inl (found, also, fits)) =
                  let same : found ≡ misfit = cc in
                  let unfit : key_of_array def.key wanted.key.now ≡ Err misfit = fits ∙ ap (λ m. Err m) same in
                  inl (ap (λ r. Refused r) (told wanted.key.now unfit)
                  ∙ sym (ap (λ a. a.reply) (key_is_misfit before space index wanted.limit wanted.offset wanted.iterator wanted.key.now schema described def there taken misfit unfit)))
              by_fault (inr (inl (long, fitting, fits, fit, above))) = absurd cc
              by_fault (inr (inr none)) = absurd cc

          tells_long : fault ≡ faults.TooLong → IsReplyOf (Refused ResultTooLong) select
          tells_long is = by_fault tells
            where
              by_fault : SelectsByKey (entries_of before space def) def wanted tuples (Err fault) → IsReplyOf (Refused ResultTooLong) select
              by_fault (inl (found, also, fits)) = absurd cc
              by_fault (inr (inl (long, fitting, fits, fit, above))) =
                  inl (sym (ap (λ a. a.reply) (result_is_too_long before space index wanted.limit wanted.offset wanted.iterator wanted.key.now schema described def there taken fitting fits above)))
              by_fault (inr (inr none)) = absurd cc

          pub tells_fault : (refusal : Refusal) → IsFaultRefusal def fault refusal → IsReplyOf (Refused refusal) select
          tells_fault refusal = by_fault fault refl
            where
              by_fault : (one : SelectFault) → fault ≡ one → IsFaultRefusal def one refusal → IsReplyOf (Refused refusal) select
              by_fault (faults.Misfit misfit) is told = tells_misfit misfit refusal is told
              by_fault faults.TooLong is told = subst (λ r. IsReplyOf (Refused r) select) (sym told) (tells_long is)
              by_fault faults.NoMemory is told = inr (ap (λ r. Refused r) told)

-- ---- what it notes

module _ (before : State) (space index : ℕ) (wanted : Pick) (old first : Noted) (spaces : AddsReads old first (space_read space ∷ [])) where
  abbrev its_answer : Answer
  its_answer = select_answer_in before space index wanted.limit wanted.offset wanted.iterator wanted.key.now

  pub notes_no_space : (refusal : Refusal) → (schema_of before space ≡ None) × (refusal ≡ SpaceMissing (record { 0 = space })) → AddsReads old first its_answer.reads
  notes_no_space refusal (none, is) =
      subst (AddsReads old first) (sym (ap (λ a. a.reads) (select_misses_space before space index wanted.limit wanted.offset wanted.iterator wanted.key.now none))) spaces

  module _ (second : Noted) (indexes : AddsReads first second (index_read space ∷ [])) (schema shown : Schema) (described : schema_of before space ≡ Some schema) (same : shown ≡ schema) where
    schema_noted : AddsReads old second (schema_reads space)
    schema_noted = adds_both old first second (space_read space ∷ []) (index_read space ∷ []) spaces indexes

    -- the reads of an answer that is known
    noted_by : (whole : Answer) → its_answer ≡ whole → AddsReads old second whole.reads → AddsReads old second its_answer.reads
    noted_by whole is noted = subst (AddsReads old second) (sym (ap (λ a. a.reads) is)) noted

    pub notes_no_index : (refusal : Refusal)
        → ((index_with index shown.indexes ≡ None) × (refusal ≡ IndexMissing (record { 0 = index }) shown.def.name)) ⊎ (refusal ≡ OutOfMemory)
        → (refusal ≡ OutOfMemory) ⊎ AddsReads old second its_answer.reads
    notes_no_index refusal (inl (none, is)) =
        inr (noted_by (refusal_after (schema_reads space) (IndexMissing (record { 0 = index }) schema.def.name))
        (select_misses_index before space index wanted.limit wanted.offset wanted.iterator wanted.key.now schema described
        (ap (λ (s : Schema). index_with index s.indexes) (sym same) ∙ none)) schema_noted)
    notes_no_index refusal (inr none) = inl none

    module _ (def : IndexDef) (found : index_with index shown.indexes ≡ Some def) where
      its : index_with index schema.indexes ≡ Some def
      its = ap (λ (s : Schema). index_with index s.indexes) (sym same) ∙ found

      pub notes_refusal : (refusal : Refusal) → RefusesKey def wanted.iterator wanted.key.now refusal ⊎ (refusal ≡ OutOfMemory) → (refusal ≡ OutOfMemory) ⊎ AddsReads old second its_answer.reads
      notes_refusal refusal (inl refuses) =
          inr (noted_by (refusal_after (schema_reads space) refusal)
          (key_is_refused before space index wanted.limit wanted.offset wanted.iterator wanted.key.now schema described def its refusal refuses) schema_noted)
      notes_refusal refusal (inr none) = inl none

      module _ (taken : TakesKey def wanted.iterator wanted.key.now) (tuples : List (List ℕ)) where
        pub notes_tuples : (read : Option KeyRange) (last : Noted) → SelectsByKey (entries_of before space def) def wanted tuples (Ok read)
            → ((range : Option Range) → IfSome range AreFitEnds → read ≡ option_map edges_of range → AddsReads second last (range_reads (source_of space) def.id.0 range))
            → AddsReads old last its_answer.reads
        notes_tuples read last (fitting, fits, fit, is, few, edges, ends) noted =
            subst (AddsReads old last)
            (sym (ap (λ a. a.reads) (tuples_are_picked before space index wanted.limit wanted.offset wanted.iterator wanted.key.now schema described def its taken fitting fits
            (subst (λ t. total_bytes t ≤ max_result_size) is few))))
            (adds_both old second last (schema_reads space) (range_reads (source_of space) def.id.0 (picked_of (entries_of before space def) wanted fitting).read) schema_noted
            (noted (picked_of (entries_of before space def) wanted fitting).read ends edges))

        module _ (fault : SelectFault) (tells : SelectsByKey (entries_of before space def) def wanted tuples (Err fault)) where
          notes_misfit : (misfit : Misfit) → fault ≡ faults.Misfit misfit → AddsReads old second its_answer.reads
          notes_misfit misfit is = by_fault tells
            where
              by_fault : SelectsByKey (entries_of before space def) def wanted tuples (Err fault) → AddsReads old second its_answer.reads
              by_fault (inl (one, also, fits)) =
                  noted_by (refusal_after (schema_reads space) (misfit_refusal (length def.key) one))
                  (key_is_misfit before space index wanted.limit wanted.offset wanted.iterator wanted.key.now schema described def its taken one fits) schema_noted
              by_fault (inr (inl (long, fitting, fits, fit, above))) = absurd cc
              by_fault (inr (inr none)) = absurd cc

          notes_long : (last : Noted) → fault ≡ faults.TooLong
              → ((key : Key) → key_of_array def.key wanted.key.now ≡ Ok key → AreFit key → AddsReads second last (range_reads (source_of space) def.id.0 (Some (range_of wanted.iterator key))))
              → AddsReads old last its_answer.reads
          notes_long last is noted = by_fault tells
            where
              by_fault : SelectsByKey (entries_of before space def) def wanted tuples (Err fault) → AddsReads old last its_answer.reads
              by_fault (inl (one, also, fits)) = absurd cc
              by_fault (inr (inl (long, fitting, fits, fit, above))) =
                  subst (AddsReads old last)
                  (sym (ap (λ a. a.reads) (result_is_too_long before space index wanted.limit wanted.offset wanted.iterator wanted.key.now schema described def its taken fitting fits above)))
                  (adds_both old second last (schema_reads space) (range_reads (source_of space) def.id.0 (Some (range_of wanted.iterator fitting))) schema_noted (noted fitting fits fit))
              by_fault (inr (inr none)) = absurd cc

          pub notes_fault : (last : Noted) (refusal : Refusal) → IsFaultRefusal def fault refusal
              → ((key : Key) → fault ≡ faults.TooLong → key_of_array def.key wanted.key.now ≡ Ok key → AreFit key
              → AddsReads second last (range_reads (source_of space) def.id.0 (Some (range_of wanted.iterator key))))
              → (fault ≢ faults.TooLong → last ≡ second) → (refusal ≡ OutOfMemory) ⊎ AddsReads old last its_answer.reads
          notes_fault last refusal told long other = by_fault fault refl told
            where
              by_fault : (one : SelectFault) → fault ≡ one → IsFaultRefusal def one refusal → (refusal ≡ OutOfMemory) ⊎ AddsReads old last its_answer.reads
              by_fault (faults.Misfit misfit) is told =
                  inr (subst (λ n. AddsReads old n its_answer.reads) (sym (other (λ long. absurd cc))) (notes_misfit misfit is))
              by_fault faults.TooLong is told = inr (notes_long last is (λ key. long key is))
              by_fault faults.NoMemory is told = inl told
