use Rattle.std.proofs.Common.{sym, subst}
use Rattle.mx_model.specs.Frame.{IsDataStatement}
use Rattle.mx_model.specs.Streams.{states_in}
use Rattle.mx_engine.specs.StatementViews.{statement_view}
use Rattle.mx_engine.specs.Steps.{AnswersStatement}
use Rattle.mx_engine.specs.Views.{reply_of}
use Rattle.mx_engine.proofs.engine.Engine.step_active.Goals as goal

pub returns-in-Select-clause-answers : goal.returns-in-Select-clause-answers
returns-in-Select-clause-answers c = λ streams name one all active plain.
    subst (λ s. AnswersStatement c.args.self.now c.select_active.new.self streams name (states_in streams one (statement_view s)) (reply_of c.select_active.result c.select_active.new.found))
    (sym c.in-Select.is) (c.select_active.ensures.answers streams name one all active)

pub returns-in-Write-clause-answers : goal.returns-in-Write-clause-answers
returns-in-Write-clause-answers c = λ streams name one all active plain.
    subst (λ s. AnswersStatement c.args.self.now c.write_active.new.self streams name (states_in streams one (statement_view s)) (reply_of c.write_active.result c.write_active.new.found))
    (sym c.in-Write.is) (c.write_active.ensures.answers streams name one all active (subst (λ s. IsDataStatement (statement_view s)) c.in-Write.is plain))
