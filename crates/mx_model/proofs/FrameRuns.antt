-- Statements one after the other are answered the same where nothing that rows touch meets what they read.
use Rattle.std.proofs.Common.{◌≡◌, ℕ, false, List, Result, Ok, Err, refl, sym, ap, ◌∙◌, ◌&&◌, ◌||◌, [], ◌∷◌, Option, subst, inl, inr}
use Rattle.std.specs.Prelude.{◌==◌}
use Rattle.std.specs.List.{AllByRecursion, list_any}
use Rattle.mx_base.specs.declared.refusal.Refusal.{Refusal}
use Rattle.mx_schema.specs.Sound.{IsSound}
use Rattle.mx_schema.specs.State.{State}
use Rattle.mx_write.specs.declared.writable.Writer.TheVariants.{Client}
use Rattle.mx_write.specs.Judge.{judged_write, row_change}
use Rattle.mx_write.specs.Judged.{Judged}
use Rattle.mx_write.specs.Made.{Made, write_of}
use Rattle.mx_write.specs.Touches.{Touched, are_met, index_by_state, is_met, lies_in_index, touched_by_change}
use Rattle.mx_model.specs.Answers.{answer_in_space, state_after_row, state_after_rows}
use Rattle.mx_model.specs.Frame.{AgreeBut, IsNoSchemaWrite, IsDataStatement, StaysSound, answer_to_statement, answers_from, reads_in, state_after_statement, state_after_statements, OperationHasBytes, rows_in, with_row}
use Rattle.mx_model.specs.statements.Select.{iterator_of}
use Rattle.mx_model.specs.statements.Statement.{Operation, Selects, Writes, Statement}
use Rattle.mx_model.specs.statements.Write.{answer_of, answer_of_outcome}
use Rattle.mx_model.proofs.FrameSelect.{select_same}
use Rattle.mx_model.proofs.FrameWrites.{write_same}
use Rattle.mx_msgpack.specs.Readers.{◌>>=◌}
use Rattle.mx_row.specs.declared.row.Row.{Row}
use Rattle.mx_schema.specs.declared.schema.Schema.{Schema}
use Rattle.mx_schema.specs.Catalogues.{index_with, schema_of}
use Rattle.mx_write.specs.Change.{state_after_changed, Change}
use Rattle.mx_write.specs.Reads.{Read}
use Rattle.mx_write.specs.Writes.{HasBytes}
use Rattle.mx_model.specs.Touches.{rows_meet}
use Rattle.mx_model.specs.statements.Answer.{Answer}
use Rattle.mx_model.proofs.FrameTuples.{both_false, missed_parts}
use Rattle.mx_model.proofs.FrameSteps.{IsPlainChange, answer_sound, changed_agree, described_after, plain_change, row_agrees, row_sound}
use Rattle.mx_schema.proofs.AloneLaws.{each_follows}
use Rattle.mx_model.proofs.AnswerLaws.{Agrees, select_agrees, write_agrees}

-- ---- the frame of a statement: where what a change touched meets none of its reads, it is answered the same before and after

-- a write's answer has the reads that it was judged by
answer_reads : (judged : Judged Made) → (answer_of judged).reads ≡ judged.reads
answer_reads judged = by_outcome judged.outcome
  where
    by_outcome : (outcome : Result Made Refusal) → (answer_of_outcome judged.reads outcome).reads ≡ judged.reads
    by_outcome (Ok made) = refl
    by_outcome (Err why) = refl

module _ (touched : List Touched) (one other : State) (agree : AgreeBut touched one other) (sound : IsSound one) (still : IsSound other) (space : ℕ) where
  pub answered_same : (operation : Operation) → IsNoSchemaWrite space operation → are_met one touched (answer_in_space one space operation).reads ≡ false
      → answer_in_space other space operation ≡ answer_in_space one space operation
  answered_same (Selects index limit offset iterator key) plain missed = select_same touched one other agree sound still space index limit offset (iterator_of iterator) key missed
  answered_same (Writes write) plain missed =
      ap answer_of
      (write_same touched one other agree sound still Client space plain write (ap (are_met one touched) (sym (answer_reads (judged_write Client one space write))) ∙ missed))

-- ---- where spaces are described the same, the same is met

module _ (one other : State) (described : (space : ℕ) → schema_of one space ≡ schema_of other space) (touched : List Touched) where
  index_same : (space index : ℕ) → index_by_state one space index ≡ index_by_state other space index
  index_same space index = ap (λ (found : Option Schema). found >>= (λ schema. index_with index schema.indexes)) (described space)

  met_same : (read : Read) (some : List Touched) → list_any (is_met one read) some ≡ list_any (is_met other read) some
  met_same read [] = refl
  met_same read (first ∷ some) =
      λ i. ((first.space == read.space) && lies_in_index (index_same read.space read.index i) read.range first) || met_same read some i

  pub meets_same : (reads : List Read) → are_met one touched reads ≡ are_met other touched reads
  meets_same [] = refl
  meets_same (read ∷ reads) = λ i. met_same read touched i || meets_same reads i

-- ---- statements one after the other

module _ (base : State) (touched : List Touched) where
  -- two states in which statements are made, described as a first one
  pub record AreFramed (one other : State) : Type 0 where
    pub agree : AgreeBut touched one other
    pub sound : IsSound one
    pub still : IsSound other
    pub described : (space : ℕ) → schema_of base space ≡ schema_of one space

  -- a statement is answered the same
  pub statement_same : (one other : State) → AreFramed one other → (statement : Statement) → IsDataStatement statement → are_met base touched (answer_to_statement one statement).reads ≡ false
      → answer_to_statement other statement ≡ answer_to_statement one statement
  statement_same one other framed statement plain missed =
      answered_same touched one other framed.agree framed.sound framed.still statement.space statement.operation plain.0
      (sym (meets_same base one framed.described touched (answer_to_statement one statement).reads) ∙ missed)

  -- and so are those after it
  pub framed_after : (one other : State) → AreFramed one other → (statement : Statement) → IsDataStatement statement → answer_to_statement other statement ≡ answer_to_statement one statement
      → AreFramed (state_after_statement one statement) (state_after_statement other statement)
  framed_after one other framed statement plain same = record {
    agree = subst (λ (answer : Answer). AgreeBut touched (state_after_statement one statement) (state_after_changed other answer.change)) (sym same)
        (changed_agree touched one other framed.agree (answer_to_statement one statement).change changes);
    sound = answer_sound one framed.sound statement.space statement.operation plain.1;
    still = answer_sound other framed.still statement.space statement.operation plain.1;
    described = λ space. framed.described space ∙ sym (described_after one (answer_to_statement one statement).change changes space);
  }
    where
      changes : IsPlainChange (answer_to_statement one statement).change
      changes = plain_change one statement.space statement.operation plain.0

  statements_same : (one other : State) → AreFramed one other → (statements : List Statement) → AllByRecursion IsDataStatement statements
      → are_met base touched (reads_in (answers_from one statements)) ≡ false
      → (answers_from other statements ≡ answers_from one statements) × AgreeBut touched (state_after_statements one statements) (state_after_statements other statements)
  statements_same one other framed [] plain missed = (refl, framed.agree)
  statements_same one other framed (statement ∷ later) plain missed =
      let after = state_after_statement one statement in
      let parts = missed_parts base touched (answer_to_statement one statement).reads (reads_in (answers_from after later)) missed in
      let same = statement_same one other framed statement plain.0 parts.0 in
      let rest = statements_same after (state_after_statement other statement) (framed_after one other framed statement plain.0 same) later plain.1 parts.1 in
      (λ i. same i ∷ rest.0 i, rest.1)

-- statements from two states that agree but for what was touched, where nothing of it meets what they read
pub run_same : (touched : List Touched) (one other : State) (statements : List Statement) → AgreeBut touched one other → IsSound one → IsSound other → AllByRecursion IsDataStatement statements
    → are_met one touched (reads_in (answers_from one statements)) ≡ false
    → (answers_from other statements ≡ answers_from one statements) × AgreeBut touched (state_after_statements one statements) (state_after_statements other statements)
run_same touched one other statements agree sound still plain missed =
    statements_same one touched one other (record { agree = agree; sound = sound; still = still; described = λ space. refl }) statements plain missed

-- ---- statements that follow others

-- rows whose tuples are bytes keep a state sound
pub rows_stay_sound : (before : State) (rows : List Row) → IsSound before → AllByRecursion (λ (row : Row). HasBytes (write_of row)) rows → StaysSound before rows
rows_stay_sound before [] sound bytes = sound
rows_stay_sound before (row ∷ rows) sound bytes = (sound, rows_stay_sound (state_after_row before row) rows (row_sound before sound row bytes.0) bytes.1)

pub first_sound : (before : State) (rows : List Row) → StaysSound before rows → IsSound before
first_sound before [] sound = sound
first_sound before (row ∷ rows) sound = sound.0

-- statements are answered the same after rows that touch nothing which they read
pub rows_leave : (before : State) (rows : List Row) (statements : List Statement) → StaysSound before rows → AllByRecursion IsDataStatement statements
    → rows_meet before rows (reads_in (answers_from before statements)) ≡ false → answers_from (state_after_rows before rows) statements ≡ answers_from before statements
rows_leave before [] statements sound plain missed = refl
rows_leave before (row ∷ rows) statements sound plain missed =
    let after = state_after_row before row in
    let touched = touched_by_change before (row_change before row) in
    let reads = reads_in (answers_from before statements) in
    let parts = both_false (are_met before touched reads) (rows_meet after rows reads) missed in
    let same = (run_same touched before after statements (row_agrees before sound.0 row) sound.0 (first_sound after rows sound.1) plain parts.0).0 in
    rows_leave after rows statements sound.1 plain (ap (λ (answers : List Answer). rows_meet after rows (reads_in answers)) same ∙ parts.1) ∙ same

-- ---- the rows of statements make of a state what the statements do, also after rows that touch nothing which the statements read

pub operation_agrees : (before : State) (space : ℕ) (operation : Operation) → Agrees before (answer_in_space before space operation)
operation_agrees before space (Selects index limit offset iterator key) = select_agrees before space index limit offset (iterator_of iterator) key
operation_agrees before space (Writes write) = write_agrees before space write

pub row_after : (before : State) (row : Row) (change : Option Change) → change ≡ row_change before row → state_after_row before row ≡ state_after_changed before change
unfolding state_after_row
row_after before row change changes = ap (state_after_changed before) (sym changes)

-- the rows of statements make of a state what the statements do, and it stays sound
pub run_rows : (before : State) (statements : List Statement) → IsSound before → AllByRecursion (λ (statement : Statement). OperationHasBytes statement.operation) statements
    → (state_after_rows before (rows_in (answers_from before statements)) ≡ state_after_statements before statements)
    × StaysSound before (rows_in (answers_from before statements))
run_rows before [] sound bytes = (refl, sound)
run_rows before (statement ∷ later) sound bytes =
    by_row (operation_agrees before statement.space statement.operation)
    (run_rows (state_after_statement before statement) later (answer_sound before sound statement.space statement.operation bytes.0) bytes.1)
  where
    answer : Answer
    answer = answer_to_statement before statement

    rest : List Row
    rest = rows_in (answers_from (state_after_statement before statement) later)

    Makes : State → List Row → Type 0
    Makes state rows = (state_after_rows state rows ≡ state_after_statements (state_after_statement before statement) later) × StaysSound state rows

    by_row : Agrees before (answer_to_statement before statement)
        → (state_after_rows (state_after_statement before statement) (rows_in (answers_from (state_after_statement before statement) later))
        ≡ state_after_statements (state_after_statement before statement) later)
        × StaysSound (state_after_statement before statement) (rows_in (answers_from (state_after_statement before statement) later))
        → Makes before (with_row (answer_to_statement before statement).row rest)
    by_row (inl (none, unchanged)) makes =
        subst (λ row. Makes before (with_row row rest)) (sym none) (subst (λ state. Makes state rest) (ap (state_after_changed before) unchanged) makes)
    by_row (inr (row, is, changes)) makes =
        let same : state_after_row before row ≡ state_after_statement before statement = row_after before row answer.change (changes sound) in
        let after = subst (λ state. Makes state rest) (sym same) makes in
        subst (λ row. Makes before (with_row row rest)) (sym is) (after.0, (sound, after.1))

-- so it is sound after them
pub last_sound : (before : State) (rows : List Row) → StaysSound before rows → IsSound (state_after_rows before rows)
last_sound before [] sound = sound
last_sound before (row ∷ rows) sound = last_sound (state_after_row before row) rows sound.1

-- they do so after other rows, where these touch nothing which the statements read
pub rows_again : (before : State) (others : List Row) (statements : List Statement) → StaysSound before others → AllByRecursion IsDataStatement statements
    → rows_meet before others (reads_in (answers_from before statements)) ≡ false
    → (state_after_rows (state_after_rows before others) (rows_in (answers_from before statements)) ≡ state_after_statements (state_after_rows before others) statements)
    × StaysSound (state_after_rows before others) (rows_in (answers_from before statements))
rows_again before others statements sound plain missed =
    let now = state_after_rows before others in
    let bytes = each_follows IsDataStatement (λ (statement : Statement). OperationHasBytes statement.operation) (λ statement is. is.1) statements plain in
    subst (λ (answers : List Answer). (state_after_rows now (rows_in answers) ≡ state_after_statements now statements) × StaysSound now (rows_in answers))
    (rows_leave before others statements sound plain missed) (run_rows now statements (last_sound before others sound) bytes)
