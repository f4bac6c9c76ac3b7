-- What the plain slow program keeps of streams, and what it tells.
use Rattle.std.specs.Prelude.{◌≡◌, ⊤, ℕ, List, [], ◌∷◌, ◌++◌, Option, Some, None, MatchOption, slice_get, slice_set}
use Rattle.std.specs.List.{AllZip}
use Rattle.mx_base.specs.declared.ids.TxnName.{TxnName}
use Rattle.mx_base.specs.declared.refusal.Refusal.TheVariants.{Conflict}
use Rattle.mx_request.specs.declared.request.Request.{Request}
use Rattle.mx_row.specs.declared.row.Row.{Row}
use Rattle.mx_row.specs.declared.tx.Tx.{Tx}
use Rattle.mx_row.specs.Clocks.{clock_after}
use Rattle.mx_row.specs.Limits.{rows_size, saturated}
use Rattle.mx_schema.specs.State.{State}
use Rattle.mx_write.specs.Reads.{Read}
use Rattle.mx_model.specs.declared.ids.Ids.{Ids}
use Rattle.mx_model.specs.declared.reply.Reply.{Reply}
use Rattle.mx_model.specs.declared.reply.Reply.TheVariants.{Refused}
use Rattle.mx_slow.specs.declared.slow.Slow.{Slow}
use Rattle.mx_slow.specs.declared.slow.SlowCommit.{SlowCommit}
use Rattle.mx_slow.specs.declared.slow.run.SlowRun.{SlowRun}
use Rattle.mx_slow.specs.declared.slow.statement.SlowStepTold.{SlowStepTold}
use Rattle.mx_slow.specs.declared.slow.standing.SlowStanding.TheVariants as slow
use Rattle.mx_slow.specs.declared.slow.standing.SlowStanding.{SlowStanding}
use Rattle.mx_slow.specs.declared.slow.transactions.SlowStep.{SlowStep}
use Rattle.mx_slow.specs.declared.slow.transactions.SlowTransaction.{SlowTransaction}
use Rattle.mx_model.specs.Answers.{state_after_rows}
use Rattle.mx_model.specs.Overlaps.{Active, Doomed, Standing, Transaction, TransactionStep, View, statements_in}
use Rattle.mx_model.specs.RunAlone.{Run, answer_alone, statement_answer, writes}
use Rattle.mx_slow.specs.SlowReads.{reads_view}
use Rattle.mx_slow_state.specs.SlowState.{IsSlowState}
use Rattle.mx_slow.specs.SlowTouches.{AreFitReads, meet}
use Rattle.mx_model.specs.Streams.{Outcome, Streams, commit_with, goes_on_with, outcome_of, standing_now, state_read, states_standing, streams_after, transaction_named, transaction_with, with_step}
use Rattle.mx_model.specs.Touches.{rows_meet}
use Rattle.mx_model.specs.Transactions.{is_schema_commit}
use Rattle.mx_model.specs.statements.Statement.{Statement, statement_of}

-- ---- what it keeps

-- a statement of a transaction
pub record KeepsStep (coded : SlowStep) (step : TransactionStep) : Type 0 where
  pub statement : statement_of coded.request ≡ Some step.statement
  pub after : coded.after ≡ step.after
  pub reads : coded.reads ≡ reads_view step.reads
  pub fit : AreFitReads step.reads

pub record KeepsTransaction (coded : SlowTransaction) (transaction : Transaction) : Type 0 where
  pub name : coded.name ≡ transaction.name
  pub begun : coded.begun ≡ transaction.begun
  pub steps : AllZip KeepsStep coded.steps.items transaction.steps

-- a commit in this state: the state after it, whether it changed a space or an index, and the keys that it touched
pub record KeepsCommit (before : State) (coded : SlowCommit) (commit : Tx) : Type 0 where
  pub state : IsSlowState coded.state (state_after_rows before commit.rows)
  pub schema : coded.is_schema ≡ is_schema_commit commit
  pub touched : (reads : List Read) → AreFitReads reads → meet coded.touched (reads_view reads) ≡ rows_meet before commit.rows reads

-- commits, each in the state after those before it
abbrev pub KeepCommits : State → List SlowCommit → List Tx → Type 0
KeepCommits before [] [] = ⊤
KeepCommits before [] (commit ∷ later) = ⊥
KeepCommits before (coded ∷ others) [] = ⊥
KeepCommits before (coded ∷ others) (commit ∷ later) = KeepsCommit before coded commit × KeepCommits (state_after_rows before commit.rows) others later

-- the program keeps what steps have come to
pub record IsSlow (slow : Slow) (streams : Streams) : Type 0 where
  pub ids : slow.ids ≡ streams.base.ids
  pub clock : slow.clock ≡ clock_after streams.base.clock streams.journal
  pub first : IsSlowState slow.first streams.base.state
  pub commits : KeepCommits streams.base.state slow.commits.items streams.journal
  pub transactions : AllZip KeepsTransaction slow.transactions.items streams.transactions

-- ---- what it tells

-- the reply is this outcome's, and the program keeps what comes of it
pub record Tells (slow : Slow) (streams : Streams) (name : TxnName) (outcome : Outcome) (reply : Reply) : Type 0 where
  pub told : reply ≡ outcome.reply
  pub after : IsSlow slow (streams_after streams name outcome)

-- the reply to a request is the one that is demanded
abbrev pub Answers : Slow → Streams → TxnName → Request → Reply → Type 0
Answers slow streams name asked reply = Tells slow streams name (outcome_of streams name asked) reply

-- what a request reads by itself in this state, where it is a statement
abbrev pub reads_of_statement : Ids → State → Option Statement → List Read
reads_of_statement ids before None = []
reads_of_statement ids before (Some statement) = (statement_answer ids before statement).reads

abbrev pub statement_reads : Ids → State → Request → List Read
statement_reads ids before asked = reads_of_statement ids before (statement_of asked)

-- ---- only private functions and proofs need these

-- statements that ran alone have come to this: the state with its rows, their size, and the keys that they touched
pub record RunStands (coded : SlowRun) (before : State) (run : Run) : Type 0 where
  pub state : IsSlowState coded.state run.state
  pub rows : coded.rows ≡ run.rows
  pub size : coded.size ≡ saturated (rows_size run.rows)
  pub same : state_after_rows before run.rows ≡ run.state
  pub touched : (reads : List Read) → AreFitReads reads → meet coded.touched (reads_view reads) ≡ rows_meet before run.rows reads

-- one row is committed
abbrev pub streams_with_row : Streams → Row → Streams
streams_with_row streams row = record { base = streams.base; journal = streams.journal ++ commit_with streams (row ∷ []); transactions = streams.transactions }

-- the first transaction of a name stands at this place
pub record IsNamedAt (name : TxnName) (all : List Transaction) (place : ℕ) (one : Transaction) : Type 0 where
  pub there : slice_get all place ≡ Some one
  pub named : transaction_named name all ≡ Some one
  pub changed : (step : TransactionStep) → with_step name step all ≡ slice_set all place (transaction_with step one)

abbrev pub FindsNamed : TxnName → List Transaction → Option ℕ → Type 0
FindsNamed name all found = MatchOption found (transaction_named name all ≡ None) (λ place. (one : Transaction) × IsNamedAt name all place one)

-- a statement that is answered so alone is told this
abbrev pub told_standing : Standing → Reply → Reply
told_standing Doomed reply = Refused Conflict
told_standing other reply = reply

-- a statement goes on with a transaction as it is told
pub record GoesOn (told : SlowStepTold) (streams : Streams) (one : Transaction) (statement : Statement) : Type 0 where
  pub step : TransactionStep
  pub keeps : KeepsStep told.step step
  pub reply : told.reply ≡ step.reply
  pub goes : states_standing streams statement (answer_alone streams.base.ids (state_read streams one) statement (statements_in one.steps))
      (standing_now streams (writes statement.operation) one) ≡ goes_on_with streams step

abbrev pub standing_view : SlowStanding → Standing
standing_view slow.Active = Active
standing_view (slow.View place) = View place
standing_view slow.Doomed = Doomed
