-- Rows applied one after the other: one row more, and the first that the state refuses.
use Rattle.std.proofs.Common.{◌≡◌, ◌⊎◌, inl, inr, Some, None, Ok, sym, ap, ◌∙◌, ℕ, zero, suc, ◌<◌, Bool, true, false, ◌&&◌, List, [], ◌∷◌, length, take, refl, subst, arith}
use Rattle.std.specs.Prelude.{is_none, slice_get, slice_index_or}
use Rattle.std.specs.List.{AllByRecursion}
use Rattle.std.specs.Option.{option_map}
use Rattle.std.proofs.lemmas.List.{length-map}
use Rattle.std.proofs.lemmas.Option.{slice_get-get_or, slice_get-map}
use Rattle.std.proofs.lemmas.Bool.{and_from, and_parts}
use Rattle.mx_base.specs.declared.refusal.Refusal.{Refusal}
use Rattle.mx_base.specs.declared.refusal.Refusal.TheVariants.{OutOfMemory}
use Rattle.mx_row.specs.declared.row.Row.{Row}
use Rattle.mx_schema.specs.State.{State}
use Rattle.mx_write.specs.declared.writable.Writer.TheVariants.{Journal}
use Rattle.mx_write.specs.Change.{state_after_changed}
use Rattle.mx_write.specs.Judge.{change_in, judged_row, judged_write, refusal_in, row_refusal}
use Rattle.mx_write.specs.Made.{Made, write_of}
use Rattle.mx_write.specs.Stages.{IsRefusedBy}
use Rattle.mx_write.specs.Writes.{Write}
use Rattle.mx_model.specs.Answers.{state_after_row, state_after_rows}
use Rattle.mx_msgpack.proofs.Options.{same_some}
use Rattle.mx_row.specs.declared.row_ref.RowRef.{RowRef}
use Rattle.mx_row.specs.Rows.{IsRow}
use Rattle.mx_row.specs.Views.{row_value, row_values}
use Rattle.mx_space.specs.Stored.{Holds}
use Rattle.mx_recover.specs.declared.apply.ApplyFault.{ApplyFault}
use Rattle.mx_recover.specs.declared.apply.ApplyFault.TheVariants.{Row as RefusedRow, NoMemory}
use Rattle.mx_recover.specs.Applied.{HasApplied, IsApplyFault, IsFaultOf}
use Rattle.mx_directory.specs.Directories.{takes_row, takes_rows}
use Rattle.mx_space.specs.declared.state.State as coded

-- ---- what a row comes to as the write that it is

module _ (before : State) (row : Row) (write : Write) (is : write ≡ write_of row) where
  outcome_of_row : (judged_row before row).outcome ≡ (judged_write Journal before row.space.0 write).outcome
  outcome_of_row = ap (λ w. (judged_write Journal before row.space.0 w).outcome) (sym is)

  -- the row isn't refused, and makes this change
  pub row_applied : (made : Made) → (judged_write Journal before row.space.0 write).outcome ≡ Ok made
      → (row_refusal before row ≡ None) × (state_after_changed before made.change ≡ state_after_row before row)
  unfolding state_after_row
  row_applied made outcome =
      let same = outcome_of_row ∙ outcome in
      (ap refusal_in same, sym (ap (λ r. state_after_changed before (change_in r)) same))

  -- it is refused, or memory ran out
  pub row_refused : (refusal : Refusal) → IsRefusedBy refusal (judged_write Journal before row.space.0 write)
      → (row_refusal before row ≡ Some refusal) ⊎ (refusal ≡ OutOfMemory)
  row_refused refusal (inl refused) = inl (ap refusal_in (outcome_of_row ∙ refused))
  row_refused refusal (inr none) = inr none

-- ---- rows applied one after the other: one row more, and the first that the state refuses

abbrev after_taken : State → List Row → ℕ → State
after_taken before rows count = state_after_rows before (take count rows)

-- the rows before a row, and the row
more_taken : (before : State) (rows : List Row) (place : ℕ) (row : Row) → slice_get rows place ≡ Some row → takes_rows before (take place rows) ≡ true
    → row_refusal (after_taken before rows place) row ≡ None
    → (takes_rows before (take (suc place) rows) ≡ true) × (after_taken before rows (suc place) ≡ state_after_row (after_taken before rows place) row)
more_taken before [] place row there takes none = absurd cc
more_taken before (first ∷ rows) zero row there takes none =
    let same = same_some first row there in (
      ap (λ (r : Row). takes_row before r && true) same ∙ ap (λ refusal. is_none refusal && true) none,
      ap (state_after_row before) same,
    )
more_taken before (first ∷ rows) (suc place) row there takes none =
    let both = and_parts (takes_row before first) (takes_rows (state_after_row before first) (take place rows)) takes in
    let rest = more_taken (state_after_row before first) rows place row there both.1 none in
    (and_from (takes_row before first) (takes_rows (state_after_row before first) (take (suc place) rows)) both.0 rest.0, rest.1)

pub one_applied : (before : State) (rows : List Row) (older newer : coded.State) (place : ℕ) (row : Row) → HasApplied before rows older place
    → slice_get rows place ≡ Some row → row_refusal (after_taken before rows place) row ≡ None
    → Holds newer (state_after_row (after_taken before rows place) row) → HasApplied before rows newer (suc place)
one_applied before rows older newer place row applied there none holds =
    let more = more_taken before rows place row there applied.0 none in
    (more.0, subst (Holds newer) (sym more.1) holds)

and_false : (b : Bool) → (b && false) ≡ false
and_false true = refl
and_false false = refl

-- rows of which the state refuses one
pub not_taken : (before : State) (rows : List Row) (place : ℕ) (row : Row) (refusal : Refusal) → slice_get rows place ≡ Some row
    → row_refusal (after_taken before rows place) row ≡ Some refusal → takes_rows before rows ≡ false
not_taken before [] place row refusal there refused = absurd cc
not_taken before (first ∷ rows) zero row refusal there refused =
    let same = same_some first row there in
    ap (λ (r : Row). takes_row before r && takes_rows (state_after_row before first) rows) same
    ∙ ap (λ found. is_none found && takes_rows (state_after_row before first) rows) refused
not_taken before (first ∷ rows) (suc place) row refusal there refused =
    ap (λ (b : Bool). takes_row before first && b) (not_taken (state_after_row before first) rows place row refusal there refused)
    ∙ and_false (takes_row before first)

-- ---- rows in place

module _ (rows : List RowRef) (place : ℕ) (default : RowRef) (within : place < length rows) where
  abbrev row : Row
  row = row_value (slice_index_or rows place default)

  row_there : slice_get (row_values rows) place ≡ Some row
  row_there = slice_get-map row_value rows place ∙ ap (option_map row_value) (slice_get-get_or rows place default within)

  abbrev taken : State → State
  taken before = after_taken before (row_values rows) place

  module _ (before : State) (older newer : coded.State) (applied : HasApplied before (row_values rows) older place) where
    -- the row is taken
    pub applied_on : (after : ℕ) → after ≡ suc place
        → (Holds older (taken before) → (row_refusal (taken before) row ≡ None) × Holds newer (state_after_row (taken before) row))
        → HasApplied before (row_values rows) newer after
    applied_on after is step =
        let one = step applied.1 in
        subst (HasApplied before (row_values rows) newer) (sym is)
        (one_applied before (row_values rows) older newer place row applied row_there one.0 one.1)

    -- it is refused, or memory ran out
    pub stopped_at : (at : ℕ) (refusal : Refusal) (fault : ApplyFault) → at ≡ place
        → (Holds older (taken before) → ((row_refusal (taken before) row ≡ Some refusal) ⊎ (refusal ≡ OutOfMemory)) × Holds newer (taken before))
        → IsFaultOf at refusal fault → IsApplyFault before (row_values rows) newer fault
    stopped_at at refusal (RefusedRow found why) is step (same, same', other) =
        let one = step applied.1 in
        let refused : row_refusal (taken before) row ≡ Some refusal = elim one.0 [ inl e ↦ e | inr none ↦ absurd (other none) ] in
        subst (λ (fault : ApplyFault). IsApplyFault before (row_values rows) newer fault)
        (λ i. RefusedRow (sym (same ∙ is) i) (sym same' i)) ((applied.0, one.1), row, row_there, refused)
    stopped_at at refusal NoMemory is step none =
        (place, omega (arith, length-map rows row_value), (applied.0, (step applied.1).1))

pub row_at_place : (rows : List RowRef) (place : ℕ) (default : RowRef) → place < length rows → AllByRecursion IsRow (row_values rows)
    → IsRow (row_value (slice_index_or rows place default))
row_at_place [] place default within each = absurd (omega arith)
row_at_place (row ∷ rows) zero default within each = each.0
row_at_place (row ∷ rows) (suc place) default within each = row_at_place rows place default (omega arith) each.1
