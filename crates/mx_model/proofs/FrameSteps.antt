-- What statements make of two states that agree but for what was touched, and what any statement or row touches.
use Rattle.std.proofs.Common.{◌≡◌, ◌⊎◌, inl, inr, ℕ, Bool, true, false, List, ◌++◌, Option, Some, None, Result, Ok, Err, refl, sym, ap, ◌∙◌, subst}
use Rattle.std.specs.Prelude.{nat_lt, ◌==◌, if◌then◌else◌}
use Rattle.std.specs.FinMap.{insert, remove}
use Rattle.mx_base.specs.declared.kinds.Unsupported.TheVariants.{HashIterator}
use Rattle.mx_base.specs.declared.refusal.Refusal.{Refusal}
use Rattle.mx_base.specs.declared.refusal.Refusal.TheVariants.{ResultTooLong, Unsupported}
use Rattle.mx_key.specs.declared.fault.Misfit.{Misfit}
use Rattle.mx_key.specs.declared.iterator.IterKind.{IterKind}
use Rattle.mx_key.specs.Keys.{Key}
use Rattle.mx_key.specs.Ranges.{Range, range_of}
use Rattle.mx_row.specs.declared.row.Row.{Row}
use Rattle.mx_schema.specs.declared.index_def.IndexDef.{IndexDef}
use Rattle.mx_schema.specs.declared.schema.Schema.{Schema}
use Rattle.mx_schema.specs.Catalogues.{index_with, schema_of}
use Rattle.mx_schema.specs.Picks.{Selection, entries_of, max_result_size, pick, total_bytes}
use Rattle.mx_schema.specs.Sound.{IsSound}
use Rattle.mx_schema.specs.State.{State, index_rows, source_of, space_rows, tuples_in}
use Rattle.mx_schema.proofs.StateLaws.{schema_set}
use Rattle.mx_write.specs.declared.writable.Writer.{Writer}
use Rattle.mx_write.specs.declared.writable.Writer.TheVariants.{Client, Journal}
use Rattle.mx_write.specs.Change.{Change, state_after_change, state_after_changed}
use Rattle.mx_write.specs.Judge.{change_in, judged_row, judged_write, row_change}
use Rattle.mx_write.specs.Made.{Made, nothing, write_of}
use Rattle.mx_write.specs.Reads.{schema_reads}
use Rattle.mx_write.specs.Writable.{describes_schema}
use Rattle.mx_write.specs.Writes.{HasBytes, Write}
use Rattle.mx_write.specs.Touches.{Touched, touched_by_change}
use Rattle.mx_write.proofs.EachSpaceLaws.{after_put, change_of}
use Rattle.mx_write.proofs.SoundLaws.{stays_sound}
use Rattle.mx_write.proofs.WrittenLaws.{Wrote, makes, wrote}
use Rattle.mx_model.specs.Answers.{answer_in_space, state_after_row}
use Rattle.mx_model.specs.Frame.{AgreeBut, IsNoSchemaWrite, OperationHasBytes}
use Rattle.mx_model.specs.statements.Answer.{refusal_after, tuples_after}
use Rattle.mx_model.specs.statements.Lookup.{in_def, in_schema}
use Rattle.mx_model.specs.statements.Select.{asked_key, iterator_of, part_count, range_reads, select_answer, select_answer_in, select_by_key, select_found, select_in_index, takes_iterator}
use Rattle.mx_model.specs.statements.Statement.{Operation, Selects, Writes}
use Rattle.mx_model.specs.statements.Write.{answer_of_outcome}
use Rattle.mx_model.proofs.FrameTuples.{both_false}
use Rattle.mx_model.proofs.FrameChange.{after_removed, agree_after, change_agrees}

-- ---- a SELECT changes nothing

found_unchanged : (space source index : ℕ) (whole : Range) (found : Selection) → (select_found space source index whole found).change ≡ None
found_unchanged space source index whole found = by_size (nat_lt max_result_size (total_bytes found.tuples))
  where
    by_size : (long : Bool)
        → (if long then refusal_after (schema_reads space ++ range_reads source index (Some whole)) ResultTooLong
        else tuples_after (schema_reads space ++ range_reads source index found.read) found.tuples).change ≡ None
    by_size true = refl
    by_size false = refl

select_unchanged : (before : State) (space index limit offset : ℕ) (iterator : IterKind) (key : List ℕ) → (select_answer_in before space index limit offset iterator key).change ≡ None
select_unchanged before space index limit offset iterator key = by_schema (schema_of before space)
  where
    by_key : (def : IndexDef) (asked : Result Key Misfit) → (select_by_key before space limit offset iterator def asked).change ≡ None
    by_key def (Err misfit) = refl
    by_key def (Ok key) = found_unchanged space (source_of space) def.id.0 (range_of iterator key) (pick (entries_of before space def) iterator key offset limit)

    by_test : (def : IndexDef) (takes : Bool)
        → (if takes then select_by_key before space limit offset iterator def (asked_key def key) else refusal_after (schema_reads space) (Unsupported HashIterator)).change ≡ None
    by_test def true = by_key def (asked_key def key)
    by_test def false = refl

    by_def : (schema : Schema) (found : Option IndexDef) → (in_def space schema index found (select_in_index before space limit offset iterator key)).change ≡ None
    by_def schema None = refl
    by_def schema (Some def) = by_test def (takes_iterator def.kind iterator (part_count key))

    by_schema : (found : Option Schema) → (in_schema space found (select_answer before space index limit offset iterator key)).change ≡ None
    by_schema None = refl
    by_schema (Some schema) = by_def schema (index_with index schema.indexes)

-- ---- what a write changes

-- states agree but for what a change touches, which may be none
abbrev AgreesAfter : State → Option Change → Type 0
AgreesAfter before change = AgreeBut (touched_by_change before change) before (state_after_changed before change)

unchanged_agrees : (before : State) → AgreesAfter before None
unchanged_agrees before space = inr (λ key. inl refl)

module _ (before : State) (sound : IsSound before) (writer : Writer) (space : ℕ) (write : Write) where
  wrote_agrees : (is : Made) → (judged_write writer before space write).outcome ≡ Ok is → AgreesAfter before is.change
  wrote_agrees is e = by_case (wrote writer before space is write e)
    where
      by_case : (is ≡ nothing) ⊎ Wrote before space write is → AgreesAfter before is.change
      by_case (inl none) = subst (λ (m : Made). AgreesAfter before m.change) (sym none) (unchanged_agrees before)
      by_case (inr so) =
          subst (λ (m : Made). AgreesAfter before m.change) (sym (makes space write so.key so.tuple so.shown is so.made).1) (change_agrees before sound space so.key so.tuple so.changes)

-- the states before and after a statement
pub answer_agrees : (before : State) → IsSound before → (space : ℕ) (operation : Operation) → AgreesAfter before (answer_in_space before space operation).change
answer_agrees before sound space (Selects index limit offset iterator key) =
    subst (AgreesAfter before) (sym (select_unchanged before space index limit offset (iterator_of iterator) key)) (unchanged_agrees before)
answer_agrees before sound space (Writes write) = by_outcome (judged_write Client before space write).outcome refl
  where
    by_outcome : (outcome : Result Made Refusal) → (judged_write Client before space write).outcome ≡ outcome
        → AgreesAfter before (answer_of_outcome (judged_write Client before space write).reads outcome).change
    by_outcome (Ok is) e = wrote_agrees before sound Client space write is e
    by_outcome (Err why) e = unchanged_agrees before

-- and of a row
pub row_agrees : (before : State) → IsSound before → (row : Row) → AgreeBut (touched_by_change before (row_change before row)) before (state_after_row before row)
unfolding state_after_row
row_agrees before sound row = by_outcome (judged_row before row).outcome refl
  where
    by_outcome : (outcome : Result Made Refusal) → (judged_row before row).outcome ≡ outcome → AgreesAfter before (change_in outcome)
    by_outcome (Ok is) e = wrote_agrees before sound Journal row.space.0 (write_of row) is e
    by_outcome (Err why) e = unchanged_agrees before

-- ---- a statement that writes no row of a space or an index

-- nothing is changed, or a tuple of a space that describes nothing
abbrev pub IsPlainChange : Option Change → Type 0
IsPlainChange change = (change ≡ None) ⊎ ((space : ℕ) × (key : Key) × (tuple : Option (List ℕ)) × (change ≡ Some (change_of space key tuple)) × (describes_schema space ≡ false))

pub plain_change : (before : State) (space : ℕ) (operation : Operation) → IsNoSchemaWrite space operation → IsPlainChange (answer_in_space before space operation).change
plain_change before space (Selects index limit offset iterator key) plain = inl (select_unchanged before space index limit offset (iterator_of iterator) key)
plain_change before space (Writes write) plain = by_outcome (judged_write Client before space write).outcome refl
  where
    by_case : (is : Made) → (is ≡ nothing) ⊎ Wrote before space write is → IsPlainChange is.change
    by_case is (inl none) = inl (ap (λ (m : Made). m.change) none)
    by_case is (inr so) = inr (space, so.key, so.tuple, ap (λ (m : Made). m.change) (makes space write so.key so.tuple so.shown is so.made).1, plain)

    by_outcome : (outcome : Result Made Refusal) → (judged_write Client before space write).outcome ≡ outcome
        → IsPlainChange (answer_of_outcome (judged_write Client before space write).reads outcome).change
    by_outcome (Ok is) e = by_case is (wrote Client before space is write e)
    by_outcome (Err why) e = inl refl

-- two states still agree after it
pub changed_agree : (touched : List Touched) (one other : State) → AgreeBut touched one other → (change : Option Change) → IsPlainChange change
    → AgreeBut touched (state_after_changed one change) (state_after_changed other change)
changed_agree touched one other agree change (inl none) = subst (λ (c : Option Change). AgreeBut touched (state_after_changed one c) (state_after_changed other c)) (sym none) agree
changed_agree touched one other agree change (inr (space, key, tuple, is, plain)) =
    subst (λ (c : Option Change). AgreeBut touched (state_after_changed one c) (state_after_changed other c)) (sym is)
    (agree_after touched one other agree space key tuple (both_false (space == space_rows) (space == index_rows) plain).1)

-- and spaces are described as before it
pub described_after : (before : State) (change : Option Change) → IsPlainChange change → (q : ℕ) → schema_of (state_after_changed before change) q ≡ schema_of before q
described_after before change (inl none) q = ap (λ (c : Option Change). schema_of (state_after_changed before c) q) none
described_after before change (inr (space, key, tuple, is, plain)) q =
    ap (λ (c : Option Change). schema_of (state_after_changed before c) q) is ∙ by_tuple tuple
  where
    no_space : (space == space_rows) ≡ false
    no_space = (both_false (space == space_rows) (space == index_rows) plain).0

    no_index : (space == index_rows) ≡ false
    no_index = (both_false (space == space_rows) (space == index_rows) plain).1

    by_tuple : (tuple : Option (List ℕ)) → schema_of (state_after_change before (change_of space key tuple)) q ≡ schema_of before q
    by_tuple None = ap (λ s. schema_of s q) (after_removed before space key no_index) ∙ schema_set before space (remove (tuples_in before space) key) no_space no_index q
    by_tuple (Some new) = ap (λ s. schema_of s q) (after_put before space key new) ∙ schema_set before space (insert (tuples_in before space) key new) no_space no_index q

-- a statement keeps a state sound
pub answer_sound : (before : State) → IsSound before → (space : ℕ) (operation : Operation) → OperationHasBytes operation
    → IsSound (state_after_changed before (answer_in_space before space operation).change)
answer_sound before sound space (Selects index limit offset iterator key) bytes =
    subst (λ (c : Option Change). IsSound (state_after_changed before c)) (sym (select_unchanged before space index limit offset (iterator_of iterator) key)) sound
answer_sound before sound space (Writes write) bytes = by_outcome (judged_write Client before space write).outcome refl
  where
    by_outcome : (outcome : Result Made Refusal) → (judged_write Client before space write).outcome ≡ outcome
        → IsSound (state_after_changed before (answer_of_outcome (judged_write Client before space write).reads outcome).change)
    by_outcome (Ok is) e = stays_sound Client before space write is sound bytes e
    by_outcome (Err why) e = sound

-- so does a row whose tuple is bytes
pub row_sound : (before : State) → IsSound before → (row : Row) → HasBytes (write_of row) → IsSound (state_after_row before row)
unfolding state_after_row
row_sound before sound row bytes = by_outcome (judged_row before row).outcome refl
  where
    by_outcome : (outcome : Result Made Refusal) → (judged_row before row).outcome ≡ outcome → IsSound (state_after_changed before (change_in outcome))
    by_outcome (Ok is) e = stays_sound Journal before row.space.0 (write_of row) is sound bytes e
    by_outcome (Err why) e = sound
