-- Open transactions that were answered as if each ran alone on the prefix of the journal that it reads.
use Rattle.std.specs.Prelude.{◌≡◌, ◌≢◌, ◌⊎◌, false, List, length, map}
use Rattle.std.specs.List.{AllByRecursion, AllZip}
use Rattle.mx_base.specs.declared.refusal.Refusal.TheVariants.{Conflict}
use Rattle.mx_row.specs.declared.row.Row.{Row}
use Rattle.mx_row.specs.declared.tx.Tx.{Tx}
use Rattle.mx_schema.specs.Sound.{IsSound}
use Rattle.mx_schema.specs.State.{State}
use Rattle.mx_write.specs.Made.{write_of}
use Rattle.mx_write.specs.Writes.{HasBytes}
use Rattle.mx_model.specs.declared.ids.Ids.{Ids}
use Rattle.mx_model.specs.declared.reply.Reply.TheVariants.{Refused}
use Rattle.mx_model.specs.Frame.{IsDataStatement}
use Rattle.mx_model.specs.Overlaps.{Doomed, IsWithin, TransactionStep, Transaction, place_read, standing, state_after_first, statements_in}
use Rattle.mx_model.specs.RunAlone.{run_alone}
use Rattle.mx_model.specs.Streams.{Streams}
use Rattle.mx_model.specs.statements.Answer.{Answer}

-- what its statements are answered alone, at its place, the newest first
abbrev pub answers_alone : Ids → State → List Tx → Transaction → List Answer
answers_alone ids base journal transaction =
    (run_alone ids (state_after_first base journal (place_read base journal transaction)) (statements_in transaction.steps)).answers

-- a statement was told what it is told alone, or a conflict
abbrev pub IsToldAlone : TransactionStep → Answer → Type 0
IsToldAlone step answer = (step.reply ≡ answer.reply) ⊎ (step.reply ≡ Refused Conflict)

-- A transaction is open within the journal, and its statements change no space and no index. What they have read is what they read alone at its
-- place; they were told what they are told alone there, or a conflict; and no conflict while it isn't doomed.
pub record StandsAlone (ids : Ids) (base : State) (journal : List Tx) (transaction : Transaction) : Type 0 where
  pub within : IsWithin (length journal) transaction
  pub plain : AllByRecursion IsDataStatement (statements_in transaction.steps)
  pub reads : map (λ (step : TransactionStep). step.reads) transaction.steps ≡ map (λ (answer : Answer). answer.reads) (answers_alone ids base journal transaction)
  pub told : AllZip IsToldAlone transaction.steps (answers_alone ids base journal transaction)
  pub exact : standing ids base journal false transaction ≢ Doomed
      → map (λ (step : TransactionStep). step.reply) transaction.steps ≡ map (λ (answer : Answer). answer.reply) (answers_alone ids base journal transaction)

-- the tuples of a commit's rows are bytes
abbrev pub HaveBytes : List Row → Type 0
HaveBytes rows = AllByRecursion (λ (row : Row). HasBytes (write_of row)) rows

-- steps that began with a sound state, and whose open transactions all were answered as if alone
pub record AllStandAlone (streams : Streams) : Type 0 where
  pub sound : IsSound streams.base.state
  pub bytes : AllByRecursion (λ (commit : Tx). HaveBytes commit.rows) streams.journal
  pub each : AllByRecursion (StandsAlone streams.base.ids streams.base.state streams.journal) streams.transactions
