use Rattle.std.proofs.Common.{Option, sym, subst}
use Rattle.std.proofs.lemmas.Bool.{eq-eqb}
use Rattle.mx_model.specs.Overlaps.{Transaction}
use Rattle.mx_model.specs.Streams.{states}
use Rattle.mx_engine.specs.StatementViews.{statement_view}
use Rattle.mx_engine.specs.Steps.{AnswersStatement}
use Rattle.mx_engine.specs.Views.{reply_of}
use Rattle.mx_model.proofs.BecomesLaws.{none_outside}
use Rattle.mx_engine.proofs.OutcomeLaws.{is_open_in}
use Rattle.mx_engine.proofs.engine.Engine.statement.Goals as goal

pub returns-in-Some-clause-answers : goal.returns-in-Some-clause-answers
returns-in-Some-clause-answers c = λ streams has all own counts bytes.
    let old = c.args.self.now in
    let name = c.args.name in
    let found = c.in-Some.ensures in
    let finds = found.found streams has.transactions in
    let is = is_open_in old streams name _ _ has all found.named found.apart finds in
    subst (λ (present : Option Transaction). AnswersStatement old c.step.new.self streams name (states streams present (statement_view c.args.statement.now)) (reply_of c.step.result c.step.new.found)) (sym finds.named)
    (c.step.ensures.answers streams name finds.transaction all is bytes)

pub returns-in-None-clause-answers : goal.returns-in-None-clause-answers
returns-in-None-clause-answers c = λ streams has all own counts bytes.
    subst (λ (present : Option Transaction). AnswersStatement c.args.self.now c.alone-in-None.new.self streams c.args.name (states streams present (statement_view c.args.statement.now)) (reply_of c.alone-in-None.result c.alone-in-None.new.found))
    (sym (c.in-None.ensures.found streams has.transactions)) (c.alone-in-None.ensures.answers streams c.args.name has all counts bytes)

pub returns-then-is_outside-clause-answers : goal.returns-then-is_outside-clause-answers
returns-then-is_outside-clause-answers c = λ streams has all own counts bytes.
    subst (λ (present : Option Transaction). AnswersStatement c.args.self.now c.alone.new.self streams c.args.name (states streams present (statement_view c.args.statement.now)) (reply_of c.alone.result c.alone.new.found))
    (sym (none_outside c.args.name streams.transactions (eq-eqb c.args.name.stream.0 0 c.if-is_outside.true) own)) (c.alone.ensures.answers streams c.args.name has all counts bytes)
