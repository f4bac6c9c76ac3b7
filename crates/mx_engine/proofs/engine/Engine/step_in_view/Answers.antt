use Rattle.std.proofs.Common.{inl, sym, ap, subst}
use Rattle.mx_model.specs.RunAlone.{writes}
use Rattle.mx_engine.specs.StatementViews.{statement_view}
use Rattle.mx_model.specs.Answers.{answer_in_space}
use Rattle.mx_engine.specs.Steps.{IsReplyOf}
use Rattle.mx_engine.specs.Views.{reply_of}
use Rattle.mx_engine.proofs.StepLaws.{with_open}
use Rattle.mx_engine.proofs.ViewLaws.{tells_dooming, tells_view}
use Rattle.mx_engine.proofs.engine.Engine.step_in_view.Goals as goal

pub returns-in-Select-clause-answers : goal.returns-in-Select-clause-answers
returns-in-Select-clause-answers c = λ streams name one all is view plain.
    tells_view c.args.self.now streams name c.args.slot one is c.args.at view (statement_view c.args.statement.now) plain all
    (ap (λ s. writes (statement_view s).operation) c.in-Select.is) (reply_of c.select_in_view.result c.select_in_view.new.found)
    (λ state kept there holds.
    subst (λ s. IsReplyOf (reply_of c.select_in_view.result c.select_in_view.new.found) (answer_in_space state (statement_view s).space (statement_view s).operation)) (sym c.in-Select.is) (c.select_in_view.ensures state kept there holds))

pub returns-in-Write-clause-answers : goal.returns-in-Write-clause-answers
returns-in-Write-clause-answers c = λ streams name one all is view plain.
    inl (tells_dooming c.args.self.now streams name c.args.slot one is c.args.at view (statement_view c.args.statement.now) plain
    (ap (λ s. writes (statement_view s).operation) c.in-Write.is) _
    (with_open c.args.self.now c.doom.new.self)
    c.args.at c.doom.ensures.dooms.0 c.doom.ensures.dooms.1 c.doom.ensures.dooms.2)
