-- The rows that statements leave, run alone: each can be written, the state takes it and stays sound, and all are within the limits.
use Rattle.std.proofs.Common.{◌≡◌, ℕ, ◌+◌, ◌<◌, ◌≤◌, Bool, true, false, not, ◌&&◌, List, [], ◌∷◌, ◌++◌, length, Option, Some, None, Result, Ok, Err, refl, sym, ap, ◌∙◌, subst, append-nil, length-append, arith}
use Rattle.std.specs.Prelude.{⊤, ◌==◌, ◌||◌, if◌then◌else◌}
use Rattle.std.specs.List.{AllByRecursion, list_any}
use Rattle.std.specs.Option.{option_to_list}
use Rattle.std.proofs.lemmas.Bool.{and_parts, leb-true, ltb-true}
use Rattle.std.proofs.lemmas.Bool.Decides.{nat_tests}
use Rattle.mx_base.specs.declared.refusal.Refusal.{Refusal}
use Rattle.mx_base.specs.declared.refusal.Refusal.TheVariants.{ReadOnly, TransactionTooLong}
use Rattle.mx_key.specs.Arrays.{key_array}
use Rattle.mx_row.specs.declared.row.Row.{Row}
use Rattle.mx_row.specs.Limits.{has_room, max_rows, max_transaction_size, row_size, rows_size}
use Rattle.mx_row.specs.Rows.{IsRow}
use Rattle.mx_schema.specs.Sound.{IsSound}
use Rattle.mx_schema.specs.State.{State}
use Rattle.mx_schema.proofs.AloneLaws.{each_follows}
use Rattle.mx_write.specs.Change.{Change, state_after_changed}
use Rattle.mx_write.specs.Judge.{judged_write, row_refusal}
use Rattle.mx_write.specs.Made.{Made, row_with}
use Rattle.mx_write.specs.Writable.{describes_schema}
use Rattle.mx_write.specs.Writes.{Delete, Insert, Replace, Update, Upsert, Write}
use Rattle.mx_write.specs.declared.writable.Writer.TheVariants.{Client}
use Rattle.mx_write.proofs.WrittenLaws.{makes, wrote_row}
use Rattle.mx_model.specs.declared.ids.Ids.{Ids}
use Rattle.mx_model.specs.Answers.{answer_in_space, state_after_row, state_after_rows}
use Rattle.mx_model.specs.Bases.{writable_node}
use Rattle.mx_model.specs.Frame.{IsDataStatement, IsNoSchemaWrite}
use Rattle.mx_model.specs.RunAlone.{Run, answer_in_run, run_alone, statement_answer, within_limits, writes}
use Rattle.mx_model.specs.Transactions.{is_schema_row}
use Rattle.mx_model.specs.statements.Answer.{Answer, refusal_after, refusal_alone}
use Rattle.mx_model.specs.statements.Select.{iterator_of}
use Rattle.mx_model.specs.statements.Statement.{Operation, Selects, Statement, Writes}
use Rattle.mx_model.specs.statements.Write.{answer_of_outcome}
use Rattle.mx_model.proofs.AloneCommits.{run_makes}
use Rattle.mx_model.proofs.AloneSound.{rows_sound, run_bytes}
use Rattle.mx_model.proofs.BecomesLaws.{IsAskedOperation, IsAskedStatement}
use Rattle.mx_model.proofs.AnswerLaws.{select_no_row, changes_again, row_written, stays_sound, takes_again}
use Rattle.mx_model.proofs.SizeLaws.{size_more}

-- ---- the row of a statement

-- it can be written, the state takes it, and stays sound
pub record LeavesRow (before : State) (row : Row) : Type 0 where
  pub can : IsRow row
  pub takes : row_refusal before row ≡ None
  pub sound : IsSound (state_after_row before row)

-- the row of a write is in its space
row_space : (space : ℕ) (write : Write) (key : List ℕ) → (row_with space write key).space.0 ≡ space
row_space space (Insert tuple) key = refl
row_space space (Replace tuple) key = refl
row_space space (Update index base asked operations) key = refl
row_space space (Delete index asked) key = refl
row_space space (Upsert base tuple operations) key = refl

write_leaves : (before : State) (space : ℕ) (write : Write) (row : Row) → IsSound before → IsAskedOperation space (Writes write)
    → (answer_in_space before space (Writes write)).row ≡ Some row → LeavesRow before row × (row.space.0 ≡ space)
unfolding state_after_row
write_leaves before space write row sound asked = by_outcome (judged_write Client before space write).outcome refl
  where
    by_outcome : (outcome : Result Made Refusal) → (judged_write Client before space write).outcome ≡ outcome
        → (answer_of_outcome (judged_write Client before space write).reads outcome).row ≡ Some row → LeavesRow before row × (row.space.0 ≡ space)
    by_outcome (Err refusal) is e = absurd cc
    by_outcome (Ok made) is e =
        let so = wrote_row Client before space made write row is e in
        let whole = (makes space write so.key so.tuple so.shown made so.made).1 in
        let rows : Some (row_with space write (key_array so.key)) ≡ Some row = ap (λ (m : Made). m.row) (sym whole) ∙ e in
        let same : row_with space write (key_array so.key) ≡ row = cc in (
          record {
            can = row_written before space write made row sound asked.1 asked.0 is e;
            takes = takes_again before space write made row sound is e;
            sound = subst (λ (change : Option Change). IsSound (state_after_changed before change)) (sym (changes_again before space write made row sound is e))
                (stays_sound before space write made sound asked.2 is);
          },
          ap (λ (r : Row). r.space.0) (sym same) ∙ row_space space write (key_array so.key),
        )

operation_leaves : (before : State) (space : ℕ) (operation : Operation) (row : Row) → IsSound before → IsAskedOperation space operation
    → (answer_in_space before space operation).row ≡ Some row → LeavesRow before row × (row.space.0 ≡ space) × (writes operation ≡ true)
operation_leaves before space (Selects index limit offset iterator key) row sound asked is =
    let none = select_no_row before space index limit offset (iterator_of iterator) key in absurd cc
operation_leaves before space (Writes write) row sound asked is = let (leaves, same) = write_leaves before space write row sound asked is in (leaves, same, refl)

writable : (me : ℕ) → not (me == writable_node) ≡ false → me ≡ writable_node
writable me test = grind (arith, nat_tests)

-- what is known of the row of a statement's answer
pub record StatesRow (ids : Ids) (before : State) (statement : Statement) (row : Row) : Type 0 where
  pub leaves : LeavesRow before row
  pub space : row.space.0 ≡ statement.space
  pub does : writes statement.operation ≡ true
  pub node : ids.me ≡ writable_node

pub statement_leaves : (ids : Ids) (before : State) (statement : Statement) (row : Row) → IsSound before → IsAskedStatement statement
    → (statement_answer ids before statement).row ≡ Some row → StatesRow ids before statement row
statement_leaves ids before statement row sound asked = by_test (writes statement.operation && not (ids.me == writable_node)) refl
  where
    by_test : (refuses : Bool) → (writes statement.operation && not (ids.me == writable_node)) ≡ refuses
        → (if refuses then refusal_alone (ReadOnly (record { 0 = writable_node })) else answer_in_space before statement.space statement.operation).row ≡ Some row
        → StatesRow ids before statement row
    by_test true test is = absurd cc
    by_test false test is =
        let (leaves, space, does) = operation_leaves before statement.space statement.operation row sound asked is in record {
          leaves = leaves;
          space = space;
          does = does;
          node = writable ids.me (ap (λ w. w && not (ids.me == writable_node)) (sym does) ∙ test);
        }

-- ---- the rows of a run

-- rows that statements left one after the other
abbrev pub LeaveRows : State → List Row → Type 0
LeaveRows before [] = ⊤
LeaveRows before (row ∷ rows) = LeavesRow before row × LeaveRows (state_after_row before row) rows

leave-append : (before : State) (rows others : List Row) → LeaveRows before rows → LeaveRows (state_after_rows before rows) others → LeaveRows before (rows ++ others)
leave-append before [] others leave more = more
leave-append before (row ∷ rows) others (first, leave) more = (first, leave-append (state_after_row before row) rows others leave more)

any_more : (rows : List Row) (row : Row) → list_any is_schema_row rows ≡ false → is_schema_row row ≡ false → list_any is_schema_row (rows ++ row ∷ []) ≡ false
any_more [] row none plain = ap (λ b. b || false) plain
any_more (first ∷ rows) row none plain = by_test (is_schema_row first) none (λ others. any_more rows row others plain)
  where
    by_test : (b : Bool) → (b || list_any is_schema_row rows) ≡ false
        → (list_any is_schema_row rows ≡ false → list_any is_schema_row (rows ++ row ∷ []) ≡ false)
        → (b || list_any is_schema_row (rows ++ row ∷ [])) ≡ false
    by_test true none more = absurd cc
    by_test false none more = more none

-- rows that can be committed together: they are within the limits, and none describes a space or an index
pub record RunLeaves (before : State) (rows : List Row) : Type 0 where
  pub leave : LeaveRows before rows
  pub few : length rows ≤ max_rows
  pub short : rows_size rows ≤ max_transaction_size
  pub plain : list_any is_schema_row rows ≡ false

one_more : (before : State) (rows : List Row) (row : Row) → RunLeaves before rows → LeavesRow (state_after_rows before rows) row → has_room rows row ≡ true
    → is_schema_row row ≡ false → RunLeaves before (rows ++ row ∷ [])
one_more before rows row leaves last room plain =
    let (few, short) = and_parts _ _ room in
    let count : length rows < max_rows = ltb-true _ _ few in
    let size : rows_size rows + row_size row ≤ max_transaction_size = leb-true _ _ short in
    let longer : length (rows ++ row ∷ []) ≡ length rows + 1 = length-append rows (row ∷ []) in
    record {
      leave = leave-append before rows (row ∷ []) leaves.leave (last, tt);
      few = omega (arith, count, longer);
      short = omega (arith, size, size_more rows row);
      plain = any_more rows row leaves.plain plain;
    }

no_schema : (space : ℕ) (operation : Operation) → writes operation ≡ true → IsNoSchemaWrite space operation → describes_schema space ≡ false
no_schema space (Selects index limit offset iterator key) does plain = absurd cc
no_schema space (Writes write) does plain = plain

-- the row of a further statement
further_leaves : (ids : Ids) (run : Run) (statement : Statement) (row : Row) → IsSound run.state → IsDataStatement statement → IsAskedStatement statement
    → (answer_in_run ids run statement).row ≡ Some row → LeavesRow run.state row × (has_room run.rows row ≡ true) × (is_schema_row row ≡ false)
further_leaves ids run statement row sound plain asked = by_row answer.row refl
  where
    answer : Answer
    answer = statement_answer ids run.state statement

    stated : answer.row ≡ Some row → LeavesRow run.state row × (is_schema_row row ≡ false)
    stated is =
        let states = statement_leaves ids run.state statement row sound asked is in
        (states.leaves, ap describes_schema states.space ∙ no_schema statement.space statement.operation states.does plain.0)

    by_room : (other : Row) → answer.row ≡ Some other → (room : Bool) → has_room run.rows other ≡ room
        → (if room then answer else refusal_after answer.reads TransactionTooLong).row ≡ Some row
        → LeavesRow run.state row × (has_room run.rows row ≡ true) × (is_schema_row row ≡ false)
    by_room other some true room is =
        let (leaves, plain) = stated is in
        let same : other ≡ row = cc in
        (leaves, ap (has_room run.rows) (sym same) ∙ room, plain)
    by_room other some false room is = absurd cc

    by_row : (o : Option Row) → answer.row ≡ o → (within_limits run.rows answer o).row ≡ Some row
        → LeavesRow run.state row × (has_room run.rows row ≡ true) × (is_schema_row row ≡ false)
    by_row None none is = absurd cc
    by_row (Some other) some is = by_room other some (has_room run.rows other) refl is

with_further : (ids : Ids) (before : State) (run : Run) (statement : Statement) → RunLeaves before run.rows → state_after_rows before run.rows ≡ run.state
    → IsSound run.state → IsDataStatement statement → IsAskedStatement statement → RunLeaves before (run.rows ++ option_to_list (answer_in_run ids run statement).row)
with_further ids before run statement leaves same sound plain asked = by_row (answer_in_run ids run statement).row refl
  where
    by_row : (o : Option Row) → (answer_in_run ids run statement).row ≡ o → RunLeaves before (run.rows ++ option_to_list o)
    by_row None none = subst (RunLeaves before) (sym (append-nil run.rows)) leaves
    by_row (Some row) is =
        let (last, room, kind) = further_leaves ids run statement row sound plain asked is in
        one_more before run.rows row leaves (subst (λ state. LeavesRow state row) (sym same) last) room kind

pub run_leaves : (ids : Ids) (before : State) (statements : List Statement) → IsSound before → AllByRecursion IsDataStatement statements
    → AllByRecursion IsAskedStatement statements → RunLeaves before (run_alone ids before statements).rows
unfolding run_alone
run_leaves ids before [] sound plain asked = record { leave = tt; few = omega arith; short = omega arith; plain = refl }
run_leaves ids before (statement ∷ earlier) sound plain asked =
    let run = run_alone ids before earlier in
    let same = run_makes ids before earlier sound plain.1 in
    let bytes = run_bytes ids before earlier (each_follows IsDataStatement _ (λ statement is. is.1) earlier plain.1) in
    with_further ids before run statement (run_leaves ids before earlier sound plain.1 asked.1) same
    (subst IsSound same (rows_sound before run.rows sound bytes)) plain.0 asked.0
