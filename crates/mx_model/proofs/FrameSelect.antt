-- A SELECT is answered the same where what it reads met nothing that was touched.
use Rattle.std.proofs.Common.{◌≡◌, inl, inr, ℕ, Bool, true, false, List, [], ◌∷◌, ◌++◌, Option, Some, None, Result, Ok, Err, refl, sym, ap, ◌∙◌, subst, arith}
use Rattle.std.specs.Prelude.{nat_lt, ◌==◌, if◌then◌else◌}
use Rattle.std.specs.FinMap.{get}
use Rattle.mx_base.specs.declared.kinds.Unsupported.TheVariants.{HashIterator}
use Rattle.mx_base.specs.declared.refusal.Refusal.TheVariants.{ResultTooLong, Unsupported}
use Rattle.mx_key.specs.declared.fault.Misfit.{Misfit}
use Rattle.mx_key.specs.declared.iterator.IterKind.{IterKind}
use Rattle.mx_key.specs.Keys.{Key}
use Rattle.mx_key.specs.Ranges.{Range, lies_in, range_of}
use Rattle.mx_schema.specs.declared.index_def.IndexDef.{IndexDef}
use Rattle.mx_schema.specs.declared.schema.Schema.{Schema}
use Rattle.mx_schema.specs.Catalogues.{index_with, schema_of}
use Rattle.mx_schema.specs.Picks.{Selection, entries_of, max_result_size, pick, total_bytes, tuples_by_index}
use Rattle.mx_schema.specs.Sound.{IsSound}
use Rattle.mx_schema.specs.State.{State, Tuples, index_rows, shown_index_rows, shown_space_rows, source_of, space_rows, tuples_in}
use Rattle.mx_schema.proofs.DescribedLaws.{its_keyed}
use Rattle.mx_entries.proofs.IndexedLaws.{AreApart}
use Rattle.mx_write.specs.Reads.{index_read, schema_reads, space_read}
use Rattle.mx_write.specs.Touches.{Touched}
use Rattle.mx_model.specs.Frame.{AgreeAt, AgreeBut}
use Rattle.mx_model.specs.statements.Answer.{Answer, refusal_after, tuples_after}
use Rattle.mx_model.specs.statements.Lookup.{in_def, in_schema}
use Rattle.mx_model.specs.statements.Select.{asked_key, part_count, range_reads, select_answer, select_answer_in, select_by_key, select_found, select_in_index, takes_iterator}
use Rattle.mx_model.proofs.FrameCatalogue.{BothThere, alike_in, own_agree, schema_same, there_alike, tuples_agree}
use Rattle.mx_model.proofs.FrameLookups.{IsAlike, by_number}
use Rattle.mx_model.proofs.FrameTuples.{AreMissed, missed_parts, found_alike}
use Rattle.mx_model.proofs.FrameSound.{are_apart, index_known, source_described}
use Rattle.mx_model.proofs.FrameWindow.{pick_same, pick_whole}

module _ (touched : List Touched) (one other : State) (agree : AgreeBut touched one other) (sound : IsSound one) (still : IsSound other) (space : ℕ) where
  -- the space whose tuples a space shows is the database's own, or the space itself
  source_agrees : ((key : Key) → AgreeAt touched one other space key) → (key : Key) → AgreeAt touched one other (source_of space) key
  source_agrees agrees = by_tests (space == shown_space_rows) (space == shown_index_rows)
    where
      by_tests : (spaces indexes : Bool) → (key : Key) → AgreeAt touched one other (if spaces then space_rows else if indexes then index_rows else space) key
      by_tests true indexes = own_agree touched one other agree sound space_rows (omega arith)
      by_tests false true = own_agree touched one other agree sound index_rows (omega arith)
      by_tests false false = agrees

  module _ (schema : Schema) (alike : IsAlike touched one other space schema) (def : IndexDef) (there : index_with def.id.0 schema.indexes ≡ Some def) where
    abbrev source : ℕ
    source = source_of space

    abbrev tuples : State → Tuples
    tuples state = tuples_by_index def (tuples_in state source)

    apart_in : (state : State) → IsSound state → schema_of state space ≡ Some schema → AreApart def (tuples_in state source)
    apart_in state its_sound described =
        let shown = source_described state its_sound space schema described in
        are_apart shown.schema (tuples_in state source) (its_keyed state its_sound source shown.schema shown.described) def (ap (index_with def.id.0) shown.same ∙ there)

    -- they have the same entries in a range that was read
    same_in : (range : Range) → AreMissed one touched (range_reads source def.id.0 (Some range)) → (key : Key) → lies_in range key ≡ true → get (tuples one) key ≡ get (tuples other) key
    same_in range missed key lies =
        let shown = source_described one sound space schema alike.is in
        found_alike def range key lies (tuples_in one source) (tuples_in other source) (apart_in one sound alike.is) (apart_in other still alike.are)
        (alike_in touched one other source def.id.0 range def (source_agrees alike.agree)
        (index_known one source def.id.0 shown.schema def shown.described (ap (index_with def.id.0) shown.same ∙ there)) missed)

    module _ (limit offset : ℕ) (iterator : IterKind) (key : Key) where
      abbrev selected : State → Selection
      selected state = pick (entries_of state space def) iterator key offset limit

      abbrev answered : Selection → Answer
      answered found = select_found space source def.id.0 (range_of iterator key) found

      whole_same : AreMissed one touched (range_reads source def.id.0 (Some (range_of iterator key))) → selected one ≡ selected other
      whole_same missed = pick_whole iterator key offset limit (tuples one) (tuples other) (same_in (range_of iterator key) missed)

      read_same : AreMissed one touched (range_reads source def.id.0 (selected one).read) → selected one ≡ selected other
      read_same missed =
          pick_same iterator key offset limit (tuples one) (tuples other)
          (λ read is. same_in read (subst (λ (o : Option Range). AreMissed one touched (range_reads source def.id.0 o)) is missed))

      found_same : AreMissed one touched (answered (selected one)).reads → answered (selected other) ≡ answered (selected one)
      found_same missed = ap answered (sym (by_size (nat_lt max_result_size (total_bytes (selected one).tuples)) missed))
        where
          by_size : (long : Bool)
              → AreMissed one touched (if long then refusal_after (schema_reads space ++ range_reads source def.id.0 (Some (range_of iterator key))) ResultTooLong
              else tuples_after (schema_reads space ++ range_reads source def.id.0 (selected one).read) (selected one).tuples).reads
              → selected one ≡ selected other
          by_size true missed = whole_same (missed_parts one touched (schema_reads space) (range_reads source def.id.0 (Some (range_of iterator key))) missed).1
          by_size false missed = read_same (missed_parts one touched (schema_reads space) (range_reads source def.id.0 (selected one).read) missed).1

    key_same : (limit offset : ℕ) (iterator : IterKind) (asked : Result Key Misfit) → AreMissed one touched (select_by_key one space limit offset iterator def asked).reads
        → select_by_key other space limit offset iterator def asked ≡ select_by_key one space limit offset iterator def asked
    key_same limit offset iterator (Err misfit) missed = refl
    key_same limit offset iterator (Ok key) missed = found_same limit offset iterator key missed

    index_same : (limit offset : ℕ) (iterator : IterKind) (key : List ℕ) → AreMissed one touched (select_in_index one space limit offset iterator key def).reads
        → select_in_index other space limit offset iterator key def ≡ select_in_index one space limit offset iterator key def
    index_same limit offset iterator key missed = by_test (takes_iterator def.kind iterator (part_count key)) missed
      where
        by_test : (takes : Bool)
            → AreMissed one touched (if takes then select_by_key one space limit offset iterator def (asked_key def key) else refusal_after (schema_reads space) (Unsupported HashIterator)).reads
            → (if takes then select_by_key other space limit offset iterator def (asked_key def key) else refusal_after (schema_reads space) (Unsupported HashIterator))
            ≡ (if takes then select_by_key one space limit offset iterator def (asked_key def key) else refusal_after (schema_reads space) (Unsupported HashIterator))
        by_test true missed = key_same limit offset iterator (asked_key def key) missed
        by_test false missed = refl

  -- ---- on a space

  module _ (index limit offset : ℕ) (iterator : IterKind) (key : List ℕ) where
    abbrev by_schema : State → Option Schema → Answer
    by_schema state found = in_schema space found (select_answer state space index limit offset iterator key)

    -- where it is there, its descriptions are read
    reads_schema : (schema : Schema) → AreMissed one touched (select_answer one space index limit offset iterator key schema).reads → AreMissed one touched (schema_reads space)
    reads_schema schema missed = by_index (index_with index schema.indexes) missed
      where
        by_key : (def : IndexDef) (asked : Result Key Misfit) → AreMissed one touched (select_by_key one space limit offset iterator def asked).reads → AreMissed one touched (schema_reads space)
        by_key def (Err misfit) missed = missed
        by_key def (Ok key) missed = by_size (nat_lt max_result_size (total_bytes found.tuples)) missed
          where
            found : Selection
            found = pick (entries_of one space def) iterator key offset limit

            by_size : (long : Bool)
                → AreMissed one touched (if long then refusal_after (schema_reads space ++ range_reads (source_of space) def.id.0 (Some (range_of iterator key))) ResultTooLong
                else tuples_after (schema_reads space ++ range_reads (source_of space) def.id.0 found.read) found.tuples).reads
                → AreMissed one touched (schema_reads space)
            by_size true missed = (missed_parts one touched (schema_reads space) (range_reads (source_of space) def.id.0 (Some (range_of iterator key))) missed).0
            by_size false missed = (missed_parts one touched (schema_reads space) (range_reads (source_of space) def.id.0 found.read) missed).0

        by_test : (def : IndexDef) (takes : Bool)
            → AreMissed one touched (if takes then select_by_key one space limit offset iterator def (asked_key def key) else refusal_after (schema_reads space) (Unsupported HashIterator)).reads
            → AreMissed one touched (schema_reads space)
        by_test def true missed = by_key def (asked_key def key) missed
        by_test def false missed = missed

        by_index : (found : Option IndexDef) → AreMissed one touched (in_def space schema index found (select_in_index one space limit offset iterator key)).reads
            → AreMissed one touched (schema_reads space)
        by_index None missed = missed
        by_index (Some def) missed = by_test def (takes_iterator def.kind iterator (part_count key)) missed

    reads_row : (found : Option Schema) → AreMissed one touched (by_schema one found).reads → AreMissed one touched (space_read space ∷ [])
    reads_row None missed = missed
    reads_row (Some schema) missed = (missed_parts one touched (space_read space ∷ []) (index_read space ∷ []) (reads_schema schema missed)).0

    described_same : (schema : Schema) → IsAlike touched one other space schema → AreMissed one touched (select_answer one space index limit offset iterator key schema).reads
        → select_answer other space index limit offset iterator key schema ≡ select_answer one space index limit offset iterator key schema
    described_same schema alike missed = by_index (index_with index schema.indexes) refl missed
      where
        by_index : (found : Option IndexDef) → index_with index schema.indexes ≡ found
            → AreMissed one touched (in_def space schema index found (select_in_index one space limit offset iterator key)).reads
            → in_def space schema index found (select_in_index other space limit offset iterator key) ≡ in_def space schema index found (select_in_index one space limit offset iterator key)
        by_index None is missed = refl
        by_index (Some def) is missed = index_same schema alike def (by_number touched one other space schema alike index def is) limit offset iterator key missed

    -- a SELECT
    pub select_same : AreMissed one touched (select_answer_in one space index limit offset iterator key).reads
        → select_answer_in other space index limit offset iterator key ≡ select_answer_in one space index limit offset iterator key
    select_same missed = by_row (there_alike touched one other agree sound space (reads_row (schema_of one space) missed))
      where
        by_row : BothThere one other space → by_schema other (schema_of other space) ≡ by_schema one (schema_of one space)
        by_row (inl (is, are)) = ap (by_schema other) are ∙ sym (ap (by_schema one) is)
        by_row (inr (schema, new, is, are)) =
            let here = subst (λ found. AreMissed one touched (by_schema one found).reads) is missed in
            let rows = reads_schema schema here in
            let same : schema_of one space ≡ schema_of other space = schema_same touched one other agree sound space rows in
            let alike : IsAlike touched one other space schema = record {
              sound = sound;
              still = still;
              is = is;
              are = sym same ∙ is;
              agree = tuples_agree touched one other agree sound space (missed_parts one touched (space_read space ∷ []) (index_read space ∷ []) rows).1;
            } in
            ap (by_schema other) alike.are ∙ described_same schema alike here ∙ sym (ap (by_schema one) is)
