use Rattle.std.proofs.Common.{sym, ◌∙◌}
use Rattle.std.proofs.lemmas.Result.{err_from_is_err_and}
use Rattle.mx_images.specs.Changes.{KeepsOthers}
use Rattle.mx_images.proofs.MomentLaws.{steps_then}
use Rattle.mx_top.specs.Runs.{held}
use Rattle.mx_top.proofs.FinishLaws.{seen_as_it_is, seen_in_order, seen_unclosed}
use Rattle.mx_top.proofs.trace.run_units.Goals as goal

pub returns-in_err-end_node-clause-units : goal.returns-in_err-end_node-clause-units
returns-in_err-end_node-clause-units g c = λ start bytes serves told.
    let p = err_from_is_err_and c.from_residual.result c.from_residual.ensures.1 in
    rw (p.1, p.2) (seen_unclosed c.answer_units-ended.result (sym c.are_in_order.ensures ∙ c.if-not-are_in_order.false) c.in_err-end_node.field-0.0 start bytes (g.S.Source.left c.answer_units-ended.new.input) c.answer_units-ended.new.node
    (held (g.K.Sink.contents c.args.output.now) (g.K.Sink.passed c.args.output.now)) (held (g.K.Sink.contents c.answer_units-ended.new.output) (g.K.Sink.passed c.answer_units-ended.new.output))
    (g.D.Dir.states c.args.dir.now) (g.D.Dir.states c.answer_units-ended.new.dir) (g.D.Dir.states c.end_node.new.dir)
    c.in_err-end_node.ensures.stops c.in_err-end_node.ensures.breaks (c.answer_units-ended.ensures.units start bytes serves told))

pub returns-in_err-end_node-clause-others : goal.returns-in_err-end_node-clause-others
returns-in_err-end_node-clause-others g c = steps_then KeepsOthers _ _ _ c.answer_units-ended.ensures.others c.end_node.ensures.others

pub returns-clause-units : goal.returns-clause-units
returns-clause-units g c = λ start bytes serves told.
    seen_in_order c.answer_units-ended.result (sym c.are_in_order.ensures ∙ c.if-not-are_in_order.false) c.in_ok-end_node.field-0 start bytes (g.S.Source.left c.answer_units-ended.new.input) c.answer_units-ended.new.node
    (held (g.K.Sink.contents c.args.output.now) (g.K.Sink.passed c.args.output.now)) (held (g.K.Sink.contents c.answer_units-ended.new.output) (g.K.Sink.passed c.answer_units-ended.new.output))
    (g.D.Dir.states c.args.dir.now) (g.D.Dir.states c.answer_units-ended.new.dir) (g.D.Dir.states c.end_node.new.dir)
    c.in_ok-end_node.ensures.closed (c.answer_units-ended.ensures.units start bytes serves told)

pub returns-clause-others : goal.returns-clause-others
returns-clause-others g c = steps_then KeepsOthers _ _ _ c.answer_units-ended.ensures.others c.end_node.ensures.others

pub returns-then-not-are_in_order-clause-units : goal.returns-then-not-are_in_order-clause-units
returns-then-not-are_in_order-clause-units g c = λ start bytes serves told.
    seen_as_it_is c.answer_units-ended.result (sym c.are_in_order.ensures ∙ c.if-not-are_in_order.true) start bytes (g.S.Source.left c.answer_units-ended.new.input) c.answer_units-ended.new.node
    (held (g.K.Sink.contents c.args.output.now) (g.K.Sink.passed c.args.output.now)) (held (g.K.Sink.contents c.answer_units-ended.new.output) (g.K.Sink.passed c.answer_units-ended.new.output))
    (g.D.Dir.states c.args.dir.now) (g.D.Dir.states c.answer_units-ended.new.dir)
    (c.answer_units-ended.ensures.units start bytes serves told)
