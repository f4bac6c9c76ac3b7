-- The spaces that a run changes are described the same after rows that touch nothing which it read.
use Rattle.std.proofs.Common.{◌≡◌, ◌⊎◌, inl, inr, ℕ, Bool, true, false, not, ◌&&◌, ◌||◌, List, [], ◌∷◌, Option, Some, None, Result, Ok, Err, refl, sym, ap, ◌∙◌, subst}
use Rattle.std.specs.Prelude.{◌==◌, if◌then◌else◌}
use Rattle.std.specs.List.{AllByRecursion}
use Rattle.std.specs.Option.{option_to_list}
use Rattle.mx_base.specs.declared.refusal.Refusal.{Refusal}
use Rattle.mx_base.specs.declared.refusal.Refusal.TheVariants.{ReadOnly, TransactionTooLong}
use Rattle.mx_row.specs.declared.row.Row.{Row}
use Rattle.mx_row.specs.Limits.{has_room}
use Rattle.mx_row.specs.Rows.{delete_type, insert_type, replace_type, update_type, upsert_type}
use Rattle.mx_schema.specs.declared.schema.Schema.{Schema}
use Rattle.mx_schema.specs.Catalogues.{schema_of}
use Rattle.mx_schema.specs.State.{State}
use Rattle.mx_schema.proofs.AloneLaws.{both_follow, each_follows}
use Rattle.mx_write.specs.declared.writable.Writer.TheVariants.{Client}
use Rattle.mx_write.specs.Change.{Change}
use Rattle.mx_write.specs.Checks.{tuple_fault}
use Rattle.mx_write.specs.Delete.{delete_found, deletes}
use Rattle.mx_write.specs.Insert.{inserts, inserts_taken}
use Rattle.mx_write.specs.Judge.{judged_write, row_change}
use Rattle.mx_write.specs.Judged.{Judged, next_stage, reads_of, unless, ◌>>=◌}
use Rattle.mx_write.specs.Lookup.{entry_with, own_key, the_index, the_key, the_primary, the_space, the_unique_index, tuple_under}
use Rattle.mx_write.specs.Made.{Made, nothing}
use Rattle.mx_write.specs.Reads.{index_read, key_read, schema_reads, space_read}
use Rattle.mx_write.specs.Replace.{replaces, replaces_taken}
use Rattle.mx_write.specs.Update.{update_found, updates}
use Rattle.mx_write.specs.Upsert.{upsert_found, upserts}
use Rattle.mx_write.specs.Writable.{primary_name, write_refusal}
use Rattle.mx_write.specs.Writes.{Delete, Insert, Replace, Update, Upsert, Write}
use Rattle.mx_write.proofs.StageLaws.{came_by}
use Rattle.mx_write.proofs.WrittenLaws.{Wrote, makes, wrote}
use Rattle.mx_model.specs.declared.ids.Ids.{Ids}
use Rattle.mx_model.specs.Answers.{answer_in_space, state_after_row, state_after_rows}
use Rattle.mx_model.specs.Frame.{IsDataStatement, StaysSound, reads_in}
use Rattle.mx_model.specs.Bases.{writable_node}
use Rattle.mx_model.specs.RunAlone.{answer_in_run, run_alone, statement_answer, within_limits, writes}
use Rattle.mx_model.specs.RunTouches.{changes_of}
use Rattle.mx_write.specs.Touches.{Touched, are_met, touched_by_change}
use Rattle.mx_model.specs.Touches.{rows_meet}
use Rattle.mx_model.specs.statements.Answer.{Answer, refusal_after, refusal_alone}
use Rattle.mx_model.specs.statements.Select.{iterator_of}
use Rattle.mx_model.specs.statements.Statement.{Operation, Selects, Statement, Writes}
use Rattle.mx_model.specs.statements.Write.{answer_of_outcome}
use Rattle.mx_model.proofs.AloneFrame.{rows_leave_run}
use Rattle.mx_model.proofs.AnswerLaws.{Agrees, select_agrees, select_no_row}
use Rattle.mx_model.proofs.EachLaws.{each_of_both}
use Rattle.mx_model.proofs.FrameCatalogue.{schema_same}
use Rattle.mx_model.proofs.FrameTuples.{AreMissed, both_false, missed_both, missed_parts}
use Rattle.mx_model.proofs.FrameRuns.{first_sound}
use Rattle.mx_model.proofs.FrameLookups.{first_missed, index_reads, unique_index_reads}
use Rattle.mx_model.proofs.FrameSteps.{row_agrees}

module _ (base : State) (touched : List Touched) where
  -- ---- a write that comes to something has read the rows of its space

  -- what a later stage reads is missed
  later_missed : {X Y : Type 0} (judged : Judged X) (stage : X → Judged Y) (x : X) → judged.outcome ≡ Ok x → AreMissed base touched (judged >>= stage).reads
      → AreMissed base touched (stage x).reads
  later_missed judged stage x is missed =
      (missed_parts base touched judged.reads (stage x).reads (subst (λ outcome. AreMissed base touched (next_stage judged.reads outcome stage).reads) is missed)).1

  module _ (before : State) (space : ℕ) where
    -- a write looks up the space, refuses what can't be written so, and then looks up an index
    abbrev in_space : {X : Type 0} → Option Refusal → (Schema → Judged X) → (Schema → X → Judged Made) → Judged Made
    in_space fault look stage = the_space before space >>= λ schema. (unless fault >>= λ _. (look schema >>= stage schema))

    schema_missed : {X : Type 0} (fault : Option Refusal) (look : Schema → Judged X) (stage : Schema → X → Judged Made)
        → ((schema : Schema) → AreMissed base touched (look schema).reads → AreMissed base touched (index_read space ∷ []))
        → (is : Made) → (in_space fault look stage).outcome ≡ Ok is → AreMissed base touched (in_space fault look stage).reads → AreMissed base touched (schema_reads space)
    schema_missed fault look stage looks is e missed =
        let (schema, e1, r1) = came_by (the_space before space) _ is e in
        let (u, e2, r2) = came_by (unless fault) _ is r1 in
        let found = later_missed (the_space before space) (λ schema. unless fault >>= λ _. (look schema >>= stage schema)) schema e1 missed in
        let looked = later_missed (unless fault) (λ _. look schema >>= stage schema) u e2 found in
        missed_both base touched (space_read space ∷ []) (index_read space ∷ [])
        (missed_parts base touched (space_read space ∷ []) _ (first_missed touched base (the_space before space) _ missed)).0
        (looks schema (first_missed touched base (look schema) (stage schema) looked))

    abbrev ReadsRows : Write → Type 0
    ReadsRows write = (is : Made) → (judged_write Client before space write).outcome ≡ Ok is → AreMissed base touched (judged_write Client before space write).reads
        → AreMissed base touched (schema_reads space)

    insert_missed : (tuple : List ℕ) → ReadsRows (Insert tuple)
    unfolding inserts
    insert_missed tuple =
        schema_missed (write_refusal Client space insert_type (Some tuple)) (λ schema. the_index space schema 0)
        (λ schema primary. unless (tuple_fault schema primary tuple) >>= λ _. inserts_taken before space schema primary tuple)
        (λ schema. index_reads touched base space schema 0)

    replace_missed : (tuple : List ℕ) → ReadsRows (Replace tuple)
    unfolding replaces
    replace_missed tuple =
        schema_missed (write_refusal Client space replace_type (Some tuple)) (λ schema. the_index space schema 0)
        (λ schema primary. unless (tuple_fault schema primary tuple) >>= λ _. replaces_taken before space schema primary tuple)
        (λ schema. index_reads touched base space schema 0)

    upsert_missed : (first : ℕ) (tuple operations : List ℕ) → ReadsRows (Upsert first tuple operations)
    unfolding upserts
    upsert_missed first tuple operations =
        schema_missed (write_refusal Client space upsert_type (Some tuple)) (λ schema. the_index space schema 0)
        (λ schema primary. unless (tuple_fault schema primary tuple)
        >>= λ _. (reads_of (key_read space 0 (own_key primary tuple) ∷ [])
        >>= λ _. upsert_found Client before space first tuple operations schema primary (tuple_under before space (own_key primary tuple))))
        (λ schema. index_reads touched base space schema 0)

    update_missed : (index first : ℕ) (key operations : List ℕ) → ReadsRows (Update index first key operations)
    unfolding updates
    update_missed index first key operations =
        schema_missed (write_refusal Client space update_type (primary_name index key)) (λ schema. the_unique_index space schema index)
        (λ schema def. the_primary schema
        >>= λ primary. (the_key def key
        >>= λ asked. (reads_of (key_read space index asked ∷ [])
        >>= λ _. update_found Client before space index first key operations schema primary (entry_with before space primary def asked))))
        (λ schema. unique_index_reads touched base space schema index)

    delete_missed : (index : ℕ) (key : List ℕ) → ReadsRows (Delete index key)
    unfolding deletes
    delete_missed index key =
        schema_missed (write_refusal Client space delete_type (primary_name index key)) (λ schema. the_unique_index space schema index)
        (λ schema def. the_primary schema
        >>= λ primary. (the_key def key
        >>= λ asked. (reads_of (key_read space index asked ∷ []) >>= λ _. delete_found Client before space index key (entry_with before space primary def asked))))
        (λ schema. unique_index_reads touched base space schema index)

    write_missed : (write : Write) → ReadsRows write
    write_missed (Insert tuple) = insert_missed tuple
    write_missed (Replace tuple) = replace_missed tuple
    write_missed (Update index first key operations) = update_missed index first key operations
    write_missed (Delete index key) = delete_missed index key
    write_missed (Upsert first tuple operations) = upsert_missed first tuple operations

  -- ---- an answer that changes something

  -- nothing that was touched meets a read of the rows that describe a change's space
  abbrev MissesSchema : Change → Type 0
  MissesSchema change = AreMissed base touched (schema_reads change.space)

  abbrev ReadsSchema : Answer → Type 0
  ReadsSchema answer = AreMissed base touched answer.reads → AllByRecursion MissesSchema (option_to_list answer.change)

  unchanged_reads : (answer : Answer) → answer.change ≡ None → ReadsSchema answer
  unchanged_reads answer none missed = subst (λ (change : Option Change). AllByRecursion MissesSchema (option_to_list change)) (sym none) tt

  select_reads : (answer : Answer) (before : State) → answer.row ≡ None → Agrees before answer → ReadsSchema answer
  select_reads answer before no_row (inl (none, unchanged)) = unchanged_reads answer unchanged
  select_reads answer before no_row (inr (row, is, changes)) = absurd (no_such (sym no_row ∙ is))
    where
      no_such : None ≡ Some row → ⊥
      no_such e = cc

  write_reads : (before : State) (space : ℕ) (write : Write) → ReadsSchema (answer_in_space before space (Writes write))
  write_reads before space write = by_outcome (judged_write Client before space write).outcome refl
    where
      by_case : (is : Made) → AreMissed base touched (schema_reads space) → (is ≡ nothing) ⊎ Wrote before space write is → AllByRecursion MissesSchema (option_to_list is.change)
      by_case is missed (inl none) = subst (λ (m : Made). AllByRecursion MissesSchema (option_to_list m.change)) (sym none) tt
      by_case is missed (inr so) =
          subst (λ (m : Made). AllByRecursion MissesSchema (option_to_list m.change)) (sym (makes space write so.key so.tuple so.shown is so.made).1) (missed, tt)

      by_outcome : (outcome : Result Made Refusal) → (judged_write Client before space write).outcome ≡ outcome
          → ReadsSchema (answer_of_outcome (judged_write Client before space write).reads outcome)
      by_outcome (Ok is) e missed = by_case is (write_missed before space write is e missed) (wrote Client before space is write e)
      by_outcome (Err why) e missed = tt

  operation_reads : (before : State) (space : ℕ) (operation : Operation) → ReadsSchema (answer_in_space before space operation)
  operation_reads before space (Selects index limit offset iterator key) =
      select_reads (answer_in_space before space (Selects index limit offset iterator key)) before
      (select_no_row before space index limit offset (iterator_of iterator) key) (select_agrees before space index limit offset (iterator_of iterator) key)
  operation_reads before space (Writes write) = write_reads before space write

  statement_reads : (ids : Ids) (before : State) (statement : Statement) → ReadsSchema (statement_answer ids before statement)
  statement_reads ids before statement = by_test (writes statement.operation && not (ids.me == writable_node))
    where
      by_test : (refuses : Bool)
          → ReadsSchema (if refuses then refusal_alone (ReadOnly (record { 0 = writable_node })) else answer_in_space before statement.space statement.operation)
      by_test true missed = tt
      by_test false missed = operation_reads before statement.space statement.operation missed

  limited_reads : (rows : List Row) (answer : Answer) (row : Option Row) → ReadsSchema answer → ReadsSchema (within_limits rows answer row)
  limited_reads rows answer None reads = reads
  limited_reads rows answer (Some row) reads = by_test (has_room rows row)
    where
      by_test : (room : Bool) → ReadsSchema (if room then answer else refusal_after answer.reads TransactionTooLong)
      by_test true missed = reads missed
      by_test false missed = tt

  -- ---- a run

  -- where nothing that was touched meets what a run read, nothing meets a read of the rows that describe a space which it changed
  pub run_reads : (ids : Ids) (before : State) (statements : List Statement) → AreMissed base touched (reads_in (run_alone ids before statements).answers)
      → AllByRecursion (λ (change : Change). AreMissed base touched (schema_reads change.space)) (changes_of (run_alone ids before statements).answers)
  unfolding run_alone
  run_reads ids before [] missed = tt
  run_reads ids before (statement ∷ earlier) missed =
      let run = run_alone ids before earlier in
      let answer = statement_answer ids run.state statement in
      let parts = missed_parts base touched (answer_in_run ids run statement).reads (reads_in run.answers) missed in
      each_of_both MissesSchema (option_to_list (answer_in_run ids run statement).change) (changes_of run.answers)
      (limited_reads run.rows answer answer.row (statement_reads ids run.state statement) parts.0) (run_reads ids before earlier parts.1)

-- ---- a run before and after rows

-- the spaces that a run changes are described the same after rows that touch nothing which it read
pub carried_schemas : (ids : Ids) (before : State) (rows : List Row) (statements : List Statement) → StaysSound before rows → AllByRecursion IsDataStatement statements
    → rows_meet before rows (reads_in (run_alone ids before statements).answers) ≡ false
    → AllByRecursion (λ (change : Change). schema_of before change.space ≡ schema_of (state_after_rows before rows) change.space)
    (changes_of (run_alone ids before statements).answers)
carried_schemas ids before [] statements sound plain missed = unchanged (changes_of (run_alone ids before statements).answers)
  where
    unchanged : (changes : List Change) → AllByRecursion (λ (change : Change). schema_of before change.space ≡ schema_of before change.space) changes
    unchanged [] = tt
    unchanged (change ∷ earlier) = (refl, unchanged earlier)
carried_schemas ids before (row ∷ rows) statements sound plain missed =
    let after = state_after_row before row in
    let touched = touched_by_change before (row_change before row) in
    let answers = (run_alone ids before statements).answers in
    let parts = both_false (are_met before touched (reads_in answers)) (rows_meet after rows (reads_in answers)) missed in
    let leaves = rows_leave_run ids before (row ∷ []) statements (sound.0, first_sound after rows sound.1) plain (ap (λ b. b || false) parts.0) in
    let here = each_follows (λ (change : Change). AreMissed before touched (schema_reads change.space)) (λ (change : Change). schema_of before change.space ≡ schema_of after change.space)
    (λ change read. schema_same touched before after (row_agrees before sound.0 row) sound.0 change.space read) (changes_of answers)
    (run_reads before touched ids before statements parts.0) in
    let rest = carried_schemas ids after rows statements sound.1 plain (ap (λ (answers : List Answer). rows_meet after rows (reads_in answers)) leaves.0 ∙ parts.1) in
    both_follow (λ (change : Change). schema_of before change.space ≡ schema_of after change.space)
    (λ (change : Change). schema_of after change.space ≡ schema_of (state_after_rows after rows) change.space)
    (λ (change : Change). schema_of before change.space ≡ schema_of (state_after_rows after rows) change.space) (λ change one other. one ∙ other) (changes_of answers) here
    (subst (λ (answers : List Answer). AllByRecursion (λ (change : Change). schema_of after change.space ≡ schema_of (state_after_rows after rows) change.space) (changes_of answers))
    leaves.0 rest)
