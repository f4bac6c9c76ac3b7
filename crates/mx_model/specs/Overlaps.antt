-- Open transactions: when a commit overlaps one, which prefix of the journal it then reads, and when it is doomed to conflict.
use Rattle.std.specs.Prelude.{ℕ, suc, pred, ◌≤◌, Bool, true, false, ◌||◌, List, [], ◌∷◌, ◌++◌, length, map, take, drop, Option, Some, None, nat_le, nat_lt, if◌then◌else◌}
use Rattle.std.specs.List.{AllByRecursion, list_any}
use Rattle.mx_base.specs.declared.ids.TxnName.{TxnName}
use Rattle.mx_row.specs.declared.row.Row.{Row}
use Rattle.mx_row.specs.declared.tx.Tx.{Tx}
use Rattle.mx_schema.specs.State.{State}
use Rattle.mx_write.specs.Reads.{Read}
use Rattle.mx_model.specs.declared.ids.Ids.{Ids}
use Rattle.mx_model.specs.declared.reply.Reply.{Reply}
use Rattle.mx_model.specs.Answers.{state_after_rows}
use Rattle.mx_model.specs.RunAlone.{run_alone, writes}
use Rattle.mx_model.specs.Touches.{rows_meet}
use Rattle.mx_model.specs.Transactions.{is_schema_commit, state_after}
use Rattle.mx_model.specs.statements.Statement.{Statement}

-- a statement of a transaction: how many transactions the journal had when it was made, what it was told, and what it has read at its place
pub record TransactionStep : Type 0 where
  pub statement : Statement
  pub after : ℕ
  pub reply : Reply
  pub reads : List Read

-- an open transaction: its name, how many transactions the journal had at its BEGIN, and its statements, the newest first
pub record Transaction : Type 0 where
  pub name : TxnName
  pub begun : ℕ
  pub steps : List TransactionStep

abbrev pub statements_in : List TransactionStep → List Statement
statements_in steps = map (λ step. step.statement) steps

-- the state after so many transactions of a journal
abbrev pub state_after_first : State → List Tx → (count : ℕ) → State
state_after_first base journal count = state_after base (take count journal)

-- ---- overlaps

-- what statements have read that were made before this transaction of the journal, counted from 1
abbrev pub reads_before : (number : ℕ) → List TransactionStep → List Read
reads_before number [] = []
reads_before number (step ∷ earlier) = (if nat_lt step.after number then step.reads else []) ++ reads_before number earlier

-- the number of the first of further commits that touches what statements had read before it; so many were made before them
abbrev pub first_overlap : State → (count : ℕ) → List Tx → List TransactionStep → Option ℕ
first_overlap before count [] steps = None
first_overlap before count (commit ∷ later) steps =
    if rows_meet before commit.rows (reads_before (suc count) steps) then Some (suc count)
    else first_overlap (state_after_rows before commit.rows) (suc count) later steps

-- the first commit since its BEGIN that overlaps a transaction
unfoldable pub overlap_of : State → List Tx → Transaction → Option ℕ
overlap_of base journal transaction =
    first_overlap (state_after_first base journal transaction.begun) transaction.begun (drop transaction.begun journal) transaction.steps

-- the prefix of the journal that it reads: all, or that before the commit that overlaps it
abbrev pub place_by : (whole : ℕ) → (overlap : Option ℕ) → ℕ
place_by whole None = whole
place_by whole (Some number) = pred number

abbrev pub place_read : State → List Tx → Transaction → ℕ
place_read base journal transaction = place_by (length journal) (overlap_of base journal transaction)

-- ---- doom

abbrev pub is_some_row : List Row → Bool
is_some_row [] = false
is_some_row (row ∷ rows) = true

-- its statements, run alone on a prefix of the journal, leave a row
abbrev pub has_row : Ids → State → List Tx → (place : ℕ) → List TransactionStep → Bool
has_row ids base journal place steps = is_some_row (run_alone ids (state_after_first base journal place) (statements_in steps)).rows

-- a statement that was made since this commit writes
abbrev pub has_written_since : (number : ℕ) → List TransactionStep → Bool
has_written_since number steps = list_any (λ step. if nat_le number step.after then writes step.statement.operation else false) steps

-- this commit or a later one changes a space or an index
abbrev pub has_schema_commit_since : (number : ℕ) → List Tx → Bool
has_schema_commit_since number journal = list_any is_schema_commit (drop (pred number) journal)

-- how an open transaction stands: it reads the newest state, or a prefix of the journal; or it conflicts
pub data Standing : Type 0 where
  Active : Standing
  View : (place : ℕ) → Standing
  Doomed : Standing

abbrev pub doomed_or_view : (doomed : Bool) → (place : ℕ) → Standing
doomed_or_view true place = Doomed
doomed_or_view false place = View place

abbrev pub standing_by : Ids → State → List Tx → (is_write : Bool) → List TransactionStep → (overlap : Option ℕ) → Standing
standing_by ids base journal is_write steps None = Active
standing_by ids base journal is_write steps (Some number) =
    doomed_or_view
    (has_row ids base journal (pred number) steps || has_written_since number steps || is_write || has_schema_commit_since number journal) (pred number)

-- how a transaction stands at a step of its own that writes or doesn't, or at any other
abbrev pub standing : Ids → State → List Tx → (is_write : Bool) → Transaction → Standing
standing ids base journal is_write transaction =
    standing_by ids base journal is_write transaction.steps (overlap_of base journal transaction)

-- ---- what a step makes of it

-- how it stands after a commit: one that it hadn't read of leaves it as it is, and the first that it had moves it to the view before
-- that, unless it has a row; a schema commit dooms what is overlapped
abbrev pub standing_after_commit : (has_row is_schema meets : Bool) → (count : ℕ) → Standing → Standing
standing_after_commit has_row is_schema meets count Active = if meets then doomed_or_view (has_row || is_schema) count else Active
standing_after_commit has_row is_schema meets count (View place) = doomed_or_view is_schema place
standing_after_commit has_row is_schema meets count Doomed = Doomed

-- how it stands after a statement of its own, which dooms what is overlapped where it writes
abbrev pub standing_after_step : (is_write : Bool) → Standing → Standing
standing_after_step is_write Active = Active
standing_after_step is_write (View place) = doomed_or_view is_write place
standing_after_step is_write Doomed = Doomed

-- a transaction was begun, and its statements were made, while the journal had so many transactions at most
pub record IsWithin (count : ℕ) (transaction : Transaction) : Type 0 where
  pub begun : transaction.begun ≤ count
  pub made : AllByRecursion (λ (step : TransactionStep). step.after ≤ count) transaction.steps
