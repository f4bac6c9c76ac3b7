-- Which statements of an active transaction may run out of memory, and that a write which the node doesn't take is refused without it.
use Rattle.std.proofs.Common.{◌≡◌, inl, inr, ℕ, Bool, true, false, not, ◌&&◌, List, [], ◌++◌, refl, sym, ap, ◌∙◌, subst}
use Rattle.std.specs.Prelude.{◌==◌}
use Rattle.std.specs.List.{AllZip}
use Rattle.std.proofs.lemmas.List.{append-nil}
use Rattle.mx_base.specs.declared.ids.TxnName.{TxnName}
use Rattle.mx_base.specs.declared.refusal.Refusal.TheVariants.{ReadOnly}
use Rattle.mx_tracker.specs.declared.read.Read as noted
use Rattle.mx_write.specs.Notes.{SpellsRead}
use Rattle.mx_write.specs.Writes.{Write}
use Rattle.mx_model.specs.declared.reply.Reply.{Reply}
use Rattle.mx_model.specs.declared.reply.Reply.TheVariants.{Refused}
use Rattle.mx_model.specs.Bases.{writable_node}
use Rattle.mx_model.specs.Frame.{IsDataStatement}
use Rattle.mx_model.specs.Overlaps.{Active, Transaction}
use Rattle.mx_model.specs.RunAlone.{run_with, writes}
use Rattle.mx_model.specs.Streams.{Outcome, Streams, standing_now, statement_may_lack, states_in}
use Rattle.mx_model.specs.statements.Answer.{Answer}
use Rattle.mx_model.specs.statements.Statement.{Statement}
use Rattle.mx_model.proofs.MemoryLaws.{further_may_lack}
use Rattle.mx_transactions.specs.Open.{HasRun, newest_state}
use Rattle.mx_engine.specs.declared.engine.Engine.{Engine}
use Rattle.mx_engine.specs.Steps.{AnswersOutcome, IsActiveIn, TellsOrLacks, TellsOutcome, newest_answer, newest_run}
use Rattle.mx_engine.proofs.StatementLaws.{answer_read_only, its_write}
use Rattle.mx_engine.proofs.StepLaws.{active_outcome, noted_run, tells_active, unchanged, with_open}

-- what is told of an outcome that may lack memory
pub answers_where : (may_lack : Bool) (old new : Engine) (streams : Streams) (name : TxnName) (outcome : Outcome) (reply : Reply) → may_lack ≡ true
    → TellsOrLacks old new streams name outcome reply → AnswersOutcome may_lack old new streams name outcome reply
answers_where may_lack old new streams name outcome reply may (inl tells) = inl tells
answers_where may_lack old new streams name outcome reply may (inr (lacks, keeps)) = inr (may, lacks, keeps)

-- a statement that the node takes
pub active_may_lack : (streams : Streams) (one : Transaction) (statement : Statement) → IsDataStatement statement → standing_now streams false one ≡ Active
    → (writes statement.operation && not (streams.base.ids.me == writable_node)) ≡ false → statement_may_lack (states_in streams one statement) ≡ true
active_may_lack streams one statement plain active taken =
    ap statement_may_lack (active_outcome streams one statement plain active) ∙ further_may_lack streams (newest_run streams one) statement taken

-- a write that it doesn't take has read nothing, and changes nothing that is kept
pub tells_read_only : (engine : Engine) (streams : Streams) (name : TxnName) (slot : ℕ) (one : Transaction) (active : IsActiveIn engine streams name slot one) (space : ℕ) (write : Write)
    → IsDataStatement (its_write streams one space write) → (streams.base.ids.me == writable_node) ≡ false
    → TellsOutcome engine engine streams name (states_in streams one (its_write streams one space write)) (Refused (ReadOnly (record { 0 = writable_node })))
tells_read_only engine streams name slot one active space write plain refuses =
    let kept = active.is_open.kept in
    let statement = its_write streams one space write in
    let answer = newest_answer streams one statement in
    let is = answer_read_only streams one space write refuses in
    let run : HasRun (newest_state streams) (run_with (newest_run streams one) answer) kept.work (kept.reads ++ []) =
    noted_run (newest_state streams) (newest_run streams one) kept.work kept.reads [] answer active.run (ap (λ (a : Answer). a.row) is) (ap (λ (a : Answer). a.change) is)
    (subst (λ (a : Answer). AllZip SpellsRead [] a.reads) (sym is) tt) in
    tells_active engine engine streams name slot one active (with_open engine engine.open) statement plain kept refl
    (subst (λ (reads : List noted.Read). HasRun (newest_state streams) (run_with (newest_run streams one) answer) kept.work reads) (append-nil kept.reads) run)
    (record { changes = unchanged engine.open slot; has = active.is_open.is }) (Refused (ReadOnly (record { 0 = writable_node }))) (sym (ap (λ (a : Answer). a.reply) is))
