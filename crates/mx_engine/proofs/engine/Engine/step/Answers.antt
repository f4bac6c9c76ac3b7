use Rattle.std.proofs.Common.{inl, sym, ap, ◌∙◌}
use Rattle.std.specs.Prelude.{Some}
use Rattle.mx_engine.specs.StatementViews.{statement_view}
use Rattle.mx_engine.proofs.StepLaws.{data_statement, is_active, is_view, tells_doomed}
use Rattle.mx_engine.proofs.engine.Engine.step.Goals as goal

pub returns-in-Active-clause-answers : goal.returns-in-Active-clause-answers
returns-in-Active-clause-answers c = λ streams name one all is bytes.
    let statement = statement_view c.args.statement.now in
    c.step_active.ensures.answers streams name one all
    (is_active c.args.self.now streams name c.args.slot one is _ (c.requires.live ∙ ap (λ s. Some s) c.in-Active.is))
    (data_statement statement.space statement.operation (sym c.if-writes_schema.ensures) bytes)

pub returns-in-View-clause-answers : goal.returns-in-View-clause-answers
returns-in-View-clause-answers c = λ streams name one all is bytes.
    let statement = statement_view c.args.statement.now in
    c.step_in_view.ensures.answers streams name one all is
    (is_view c.args.self.now streams name c.args.slot one is _ (c.requires.live ∙ ap (λ s. Some s) c.in-View.is))
    (data_statement statement.space statement.operation (sym c.if-writes_schema.ensures) bytes)

pub returns-in-Aborted-clause-answers : goal.returns-in-Aborted-clause-answers
returns-in-Aborted-clause-answers c = λ streams name one all is bytes.
    inl (tells_doomed c.args.self.now streams name c.args.slot one is _ (c.requires.live ∙ ap (λ s. Some s) c.in-Aborted.is) (statement_view c.args.statement.now) (sym c.if-writes_schema.ensures))
