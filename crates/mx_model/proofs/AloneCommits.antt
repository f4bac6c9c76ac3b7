-- What a transaction that ran alone commits makes of the state what its statements did.
use Rattle.std.proofs.Common.{◌≡◌, inl, inr, Bool, true, false, not, ◌&&◌, List, [], ◌∷◌, ◌++◌, Option, Some, None, append-nil, refl, sym, ap, ◌∙◌, subst}
use Rattle.std.specs.Prelude.{◌==◌, if◌then◌else◌}
use Rattle.std.specs.List.{AllByRecursion}
use Rattle.std.specs.Option.{option_to_list}
use Rattle.mx_base.specs.declared.refusal.Refusal.TheVariants.{ReadOnly, TransactionTooLong}
use Rattle.mx_row.specs.declared.row.Row.{Row}
use Rattle.mx_schema.specs.Sound.{IsSound}
use Rattle.mx_schema.specs.State.{State}
use Rattle.mx_schema.proofs.AloneLaws.{each_follows}
use Rattle.mx_write.specs.Change.{state_after_changed}
use Rattle.mx_model.specs.declared.ids.Ids.{Ids}
use Rattle.mx_model.specs.Alone.{AllStandAlone, StandsAlone}
use Rattle.mx_model.specs.Answers.{answer_in_space, state_after_row, state_after_rows}
use Rattle.mx_model.specs.Frame.{IsDataStatement, OperationHasBytes}
use Rattle.mx_model.specs.Bases.{writable_node}
use Rattle.mx_model.specs.Overlaps.{Transaction, statements_in}
use Rattle.mx_row.specs.Limits.{has_room}
use Rattle.mx_model.specs.RunAlone.{answer_in_run, run_alone, statement_answer, within_limits, writes}
use Rattle.mx_model.specs.Streams.{Streams, commit_with}
use Rattle.mx_model.specs.Transactions.{state_after}
use Rattle.mx_model.specs.statements.Answer.{Answer, refusal_after, refusal_alone}
use Rattle.mx_model.specs.statements.Statement.{Statement}
use Rattle.mx_model.proofs.AloneSound.{journal_sound, rows_sound, run_bytes}
use Rattle.mx_model.proofs.AnswerLaws.{Agrees}
use Rattle.mx_model.proofs.FrameRuns.{operation_agrees, row_after}
use Rattle.mx_model.proofs.JournalLaws.{state_after-append}

-- the state after rows, and then others
rows_behind : (before : State) (rows others : List Row) → state_after_rows before (rows ++ others) ≡ state_after_rows (state_after_rows before rows) others
rows_behind before [] others = refl
rows_behind before (row ∷ rows) others = rows_behind (state_after_row before row) rows others

-- ---- a statement of a run

-- its row makes of the state what its change does
pub statement_agrees : (ids : Ids) (before : State) (statement : Statement) → Agrees before (statement_answer ids before statement)
statement_agrees ids before statement = by_test (writes statement.operation && not (ids.me == writable_node))
  where
    by_test : (refuses : Bool)
        → Agrees before (if refuses then refusal_alone (ReadOnly (record { 0 = writable_node })) else answer_in_space before statement.space statement.operation)
    by_test true = inl (refl, refl)
    by_test false = operation_agrees before statement.space statement.operation

pub limited_agrees : (before : State) (rows : List Row) (answer : Answer) (row : Option Row) → Agrees before answer → Agrees before (within_limits rows answer row)
limited_agrees before rows answer None agrees = agrees
limited_agrees before rows answer (Some row) agrees = by_test (has_room rows row)
  where
    by_test : (room : Bool) → Agrees before (if room then answer else refusal_after answer.reads TransactionTooLong)
    by_test true = agrees
    by_test false = inl (refl, refl)

row_makes : (before : State) → IsSound before → (answer : Answer) → Agrees before answer
    → state_after_rows before (option_to_list answer.row) ≡ state_after_changed before answer.change
row_makes before sound answer (inl (none, unchanged)) =
    ap (λ (row : Option Row). state_after_rows before (option_to_list row)) none ∙ ap (state_after_changed before) (sym unchanged)
row_makes before sound answer (inr (row, is, changes)) =
    ap (λ (row : Option Row). state_after_rows before (option_to_list row)) is ∙ row_after before row answer.change (changes sound)

-- ---- a run

makes : (ids : Ids) (before : State) (statements : List Statement) → IsSound before
    → AllByRecursion (λ (statement : Statement). OperationHasBytes statement.operation) statements
    → state_after_rows before (run_alone ids before statements).rows ≡ (run_alone ids before statements).state
unfolding run_alone
makes ids before [] sound bytes = refl
makes ids before (statement ∷ earlier) sound bytes =
    let run = run_alone ids before earlier in
    let answer = statement_answer ids run.state statement in
    let same = makes ids before earlier sound bytes.1 in
    let still = subst IsSound same (rows_sound before run.rows sound (run_bytes ids before earlier bytes.1)) in
    rows_behind before run.rows (option_to_list (answer_in_run ids run statement).row)
    ∙ ap (λ state. state_after_rows state (option_to_list (answer_in_run ids run statement).row)) same
    ∙ row_makes run.state still (answer_in_run ids run statement) (limited_agrees run.state run.rows answer answer.row (statement_agrees ids run.state statement))

pub run_makes : (ids : Ids) (before : State) (statements : List Statement) → IsSound before → AllByRecursion IsDataStatement statements
    → state_after_rows before (run_alone ids before statements).rows ≡ (run_alone ids before statements).state
run_makes ids before statements sound plain =
    makes ids before statements sound (each_follows IsDataStatement _ (λ statement is. is.1) statements plain)

-- ---- its commit

-- the state behind a journal, after a commit of rows if there are any
committed : (streams : Streams) (rows : List Row)
    → state_after streams.base.state (streams.journal ++ commit_with streams rows) ≡ state_after_rows (state_after streams.base.state streams.journal) rows
committed streams [] = ap (state_after streams.base.state) (append-nil streams.journal)
committed streams (row ∷ rows) = state_after-append streams.base.state streams.journal (commit_with streams (row ∷ rows))

pub commit_makes : (streams : Streams) (transaction : Transaction) → AllStandAlone streams → StandsAlone streams.base.ids streams.base.state streams.journal transaction
    → state_after streams.base.state
    (streams.journal ++ commit_with streams (run_alone streams.base.ids (state_after streams.base.state streams.journal) (statements_in transaction.steps)).rows)
    ≡ (run_alone streams.base.ids (state_after streams.base.state streams.journal) (statements_in transaction.steps)).state
commit_makes streams transaction all alone =
    let newest = state_after streams.base.state streams.journal in
    committed streams (run_alone streams.base.ids newest (statements_in transaction.steps)).rows
    ∙ run_makes streams.base.ids newest (statements_in transaction.steps) (journal_sound streams.base.state streams.journal all.sound all.bytes) alone.plain
