-- What an active transaction has done stands after a commit that touches nothing which it read.
use Rattle.std.proofs.Common.{◌≡◌, ℕ, Bool, true, false, ◌||◌, List, [], ◌∷◌, ◌++◌, Option, Some, None, refl, sym, ap, ◌∙◌, subst}
use Rattle.std.specs.List.{AllByRecursion, AllZip, list_any}
use Rattle.mx_row.specs.declared.row.Row.{Row}
use Rattle.mx_row.specs.Limits.{rows_size, saturated}
use Rattle.mx_schema.specs.Catalogues.{schema_of}
use Rattle.mx_schema.specs.State.{State}
use Rattle.mx_space.specs.OwnChanges.{HoldsOwn}
use Rattle.mx_space.proofs.OwnHeldLaws.{same_schemas}
use Rattle.mx_tracker.specs.declared.read.Read as noted
use Rattle.mx_tracker.specs.declared.touched.Touched as coded
use Rattle.mx_tracker.specs.Overlaps.{is_overlapped}
use Rattle.mx_write.specs.Change.{Change}
use Rattle.mx_write.specs.Judge.{row_change}
use Rattle.mx_write.specs.Notes.{SpellsRead}
use Rattle.mx_write.specs.Reads.{Read}
use Rattle.mx_write.specs.Touches.{SpellsTouched, Touched, is_met, are_met, touched_at, touched_by_change}
use Rattle.mx_write.proofs.TouchLaws.{any_both}
use Rattle.mx_model.specs.declared.ids.Ids.{Ids}
use Rattle.mx_model.specs.Answers.{state_after_row, state_after_rows}
use Rattle.mx_model.specs.Frame.{IsDataStatement, StaysSound, reads_in}
use Rattle.mx_model.specs.RunAlone.{run_alone}
use Rattle.mx_model.specs.RunTouches.{changes_of, puts_of}
use Rattle.mx_model.specs.Touches.{rows_meet}
use Rattle.mx_model.specs.statements.Answer.{Answer}
use Rattle.mx_model.specs.statements.Statement.{Statement}
use Rattle.mx_model.proofs.AloneFrame.{rows_leave_run}
use Rattle.mx_model.proofs.EachLaws.{each_of_both}
use Rattle.mx_model.proofs.RunSchemaLaws.{carried_schemas}
use Rattle.mx_model.proofs.RunTouchLaws.{carried_meets}
use Rattle.mx_transactions.specs.declared.work.Work.{Work}
use Rattle.mx_transactions.specs.Open.{HasRun, SpellsKey, in_order, reads_made}
use Rattle.mx_transactions.specs.OpenSteps.{SpellsRows}

-- ---- what rows meet of reads, one list behind the other

exchanged : (a b c d : Bool) → ((a || b) || (c || d)) ≡ ((a || c) || (b || d))
exchanged true b c d = refl
exchanged false true true d = refl
exchanged false true false d = refl
exchanged false false c d = refl

either_order : (a b : Bool) → (a || b) ≡ (b || a)
either_order true true = refl
either_order true false = refl
either_order false true = refl
either_order false false = refl

rows_meet_both : (before : State) (rows : List Row) (a b : List Read) → rows_meet before rows (a ++ b) ≡ (rows_meet before rows a || rows_meet before rows b)
rows_meet_both before [] a b = refl
rows_meet_both before (row ∷ rows) a b =
    let touched = touched_by_change before (row_change before row) in
    let after = state_after_row before row in
    (λ i. any_both (λ read. list_any (is_met before read) touched) a b i || rows_meet_both after rows a b i)
    ∙ exchanged (are_met before touched a) (are_met before touched b) (rows_meet after rows a) (rows_meet after rows b)

none_met : (before : State) (rows : List Row) → rows_meet before rows [] ≡ false
none_met before [] = refl
none_met before (row ∷ rows) = none_met (state_after_row before row) rows

-- the reads as they were noted meet the same as those of the answers
pub noted_meet : (before : State) (rows : List Row) (answers : List Answer) → rows_meet before rows (reads_made answers) ≡ rows_meet before rows (reads_in answers)
noted_meet before rows [] = refl
noted_meet before rows (answer ∷ earlier) =
    rows_meet_both before rows (reads_made earlier) answer.reads
    ∙ ap (λ b. b || rows_meet before rows answer.reads) (noted_meet before rows earlier)
    ∙ either_order (rows_meet before rows (reads_in earlier)) (rows_meet before rows answer.reads)
    ∙ sym (rows_meet_both before rows answer.reads (reads_in earlier))

-- and the keys of rows lie in them exactly where the rows meet them
pub keys_meet : (before : State) (rows : List Row) (keys : List coded.Touched) → SpellsRows before rows keys → (noted : List noted.Read) (reads : List Read) → AllZip SpellsRead noted reads
    → is_overlapped keys noted ≡ rows_meet before rows reads
keys_meet before rows keys spells [] [] each = sym (none_met before rows)
keys_meet before rows keys spells [] (read ∷ reads) each = absurd each
keys_meet before rows keys spells (one ∷ noted) [] each = absurd each
keys_meet before rows keys spells (one ∷ noted) (read ∷ reads) (first, each) =
    (λ i. spells read one first i || keys_meet before rows keys spells noted reads each i)
    ∙ sym (rows_meet_both before rows (read ∷ []) reads)

-- ---- what was done

-- what each change's space has, each tuple's space that was put has
puts_have : (P : ℕ → Type 0) (own : List Change) → AllByRecursion (λ (change : Change). P change.space) own → AllByRecursion (λ (touched : Touched). P touched.space) (puts_of own)
puts_have P [] have = tt
puts_have P (change ∷ earlier) have =
    each_of_both (λ (touched : Touched). P touched.space) (puts_of earlier) (touched_at change.space change.key change.tuple) (puts_have P earlier have.1) (by_tuple change.tuple)
  where
    by_tuple : (tuple : Option (List ℕ)) → AllByRecursion (λ (touched : Touched). P touched.space) (touched_at change.space change.key tuple)
    by_tuple None = tt
    by_tuple (Some tuple) = (have.0, tt)

pub carried : (ids : Ids) (before : State) (rows : List Row) (statements : List Statement) (work : Work) (noted : List noted.Read) → StaysSound before rows
    → AllByRecursion IsDataStatement statements → rows_meet before rows (reads_in (run_alone ids before statements).answers) ≡ false
    → HasRun before (run_alone ids before statements) work noted → HasRun (state_after_rows before rows) (run_alone ids (state_after_rows before rows) statements) work noted
carried ids before rows statements work noted sound plain missed has =
    let after = state_after_rows before rows in
    let one = run_alone ids before statements in
    let same = rows_leave_run ids before rows statements sound plain missed in
    let schemas = carried_schemas ids before rows statements sound plain missed in record {
      written = record {
        overlay = subst (λ answers. HoldsOwn (schema_of after) work.overlay (changes_of answers)) (sym same.0)
            (same_schemas (schema_of before) (schema_of after) work.overlay (changes_of one.answers) has.written.overlay schemas);
        rows = has.written.rows ∙ sym same.1;
        size = has.written.size ∙ ap (λ r. saturated (rows_size r)) (sym same.1);
        puts = subst (λ answers. SpellsTouched after (puts_of (changes_of answers)) work.puts) (sym same.0)
            (λ read reading spells. has.written.puts read reading spells
            ∙ carried_meets before after read (puts_of (changes_of one.answers)) (puts_have (λ space. schema_of before space ≡ schema_of after space) (changes_of one.answers) schemas));
        changed = subst (λ answers. AllZip SpellsKey work.changed.items (in_order (changes_of answers))) (sym same.0) has.written.changed;
      };
      reads = subst (λ answers. AllZip SpellsRead noted (reads_made answers)) (sym same.0) has.reads;
    }
