use Rattle.std.proofs.Common.{[], ◌∷◌, ◌++◌, ap, ◌∙◌, subst}
use Rattle.mx_node.specs.Order.{AreStepsOf}
use Rattle.mx_node.specs.Interrupted.{IsInterrupted}
use Rattle.mx_node.specs.Serving.{AnswersUnit}
use Rattle.mx_top.specs.TraceOutput.{units_text}
use Rattle.mx_top.specs.Units.{unit_by}
use Rattle.mx_top.specs.UnitViews.{head_view}
use Rattle.mx_node.proofs.LastingLaws.{where_err}
use Rattle.mx_top.proofs.UnitLaws.{known_unit, took_unit, took_breaks}
use Rattle.mx_top.proofs.trace.answer_unit.Goals as goal

pub unit-requires-clause-connection : goal.unit-requires-clause-connection
unit-requires-clause-connection g c =
    known_unit (head_view c.args.head) c.args.content.now _ c.unit_of.ensures c.requires.connection

pub returns-in_err-sent-clause-breaks : goal.returns-in_err-sent-clause-breaks
returns-in_err-sent-clause-breaks g c = λ start units history serves.
    where_err c.from_residual.result
    (subst (λ u. IsInterrupted start.base history (AreStepsOf (units ++ u ∷ [])) (g.D.Dir.states c.args.dir.now) (g.D.Dir.states c.unit.new.dir)) c.unit_of.ensures
    (c.in_err-sent.ensures.breaks start units history serves))

pub returns-in_err-write_units-clause-breaks : goal.returns-in_err-write_units-clause-breaks
returns-in_err-write_units-clause-breaks g c = λ start units history serves.
    let unit = unit_by (head_view c.args.head) c.args.content.now in
    let took : AnswersUnit start c.unit.new.self units history unit c.in_ok-sent.sent (g.D.Dir.states c.args.dir.now) (g.D.Dir.states c.unit.new.dir) =
    subst (λ u. AnswersUnit start c.unit.new.self units history u c.in_ok-sent.sent (g.D.Dir.states c.args.dir.now) (g.D.Dir.states c.unit.new.dir)) c.unit_of.ensures
    (c.in_ok-sent.ensures.took start units history serves) in
    where_err c.from_residual-in_err-write_units.result (took_breaks start c.unit.new.self units history unit c.in_ok-sent.sent _ _ took)

pub returns-clause-took : goal.returns-clause-took
returns-clause-took g c = λ start units history serves.
    let unit = unit_by (head_view c.args.head) c.args.content.now in
    let took : AnswersUnit start c.unit.new.self units history unit c.in_ok-sent.sent (g.D.Dir.states c.args.dir.now) (g.D.Dir.states c.unit.new.dir) =
    subst (λ u. AnswersUnit start c.unit.new.self units history u c.in_ok-sent.sent (g.D.Dir.states c.args.dir.now) (g.D.Dir.states c.unit.new.dir)) c.unit_of.ensures
    (c.in_ok-sent.ensures.took start units history serves) in
    took_unit start c.unit.new.self units history unit c.in_ok-sent.sent _ _ took c.write_units.new.out.items
    (c.in_ok-write_units.ensures ∙ ap units_text c.as_slice.ensures)
