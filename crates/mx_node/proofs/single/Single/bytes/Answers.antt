use Rattle.std.proofs.Common.{sym, ◌∙◌}
use Rattle.mx_node.specs.Inputs.{Bytes}
use Rattle.mx_node.proofs.BreakLaws.{broken_behind}
use Rattle.mx_node.proofs.LastingLaws.{where_err}
use Rattle.mx_node.proofs.ServerLaws.{some_in, took_bytes, took_nothing}
use Rattle.mx_node.proofs.single.Single.bytes.Goals as goal

pub returns-then-is_empty-clause-took : goal.returns-then-is_empty-clause-took
returns-then-is_empty-clause-took g c = λ start units history serves.
    took_nothing start c.args.self.now units history c.args.connection.0 c.args.bytes.now c.new-out.result (g.D.Dir.states c.args.dir.now) serves
    c.requires.connection (sym c.is_empty.ensures ∙ c.if-is_empty.true) c.new-out.ensures

pub answer-requires-clause-some : goal.answer-requires-clause-some
answer-requires-clause-some g c = some_in c.args.bytes.now (sym c.is_empty.ensures ∙ c.if-is_empty.false)

pub returns-in_err-leave_where-clause-breaks : goal.returns-in_err-leave_where-clause-breaks
returns-in_err-leave_where-clause-breaks g c = λ start units history serves.
    let old = g.D.Dir.states c.args.dir.now in
    let new = g.D.Dir.states c.answer.new.dir in
    where_err c.from_residual-in_err-leave_where.result
    (broken_behind start c.args.self.now c.answer.new.self units history c.args.connection.0 c.args.bytes.now old new c.answer.new.out c.in_ok-ended.ended
    (c.in_ok-ended.ensures.alone start units history serves))

pub returns-clause-took : goal.returns-clause-took
returns-clause-took g c = λ start units history serves.
    let old = g.D.Dir.states c.args.dir.now in
    let new = g.D.Dir.states c.answer.new.dir in
    let done = c.in_ok-ended.ensures.alone start units history serves in
    took_bytes start c.args.self.now c.answer.new.self _ units history c.args.connection.0 c.args.bytes.now c.answer.new.out c.leave_where.new.out old new
    c.in_ok-ended.ended serves c.requires.connection (some_in c.args.bytes.now (sym c.is_empty.ensures ∙ c.if-is_empty.false)) done
    (c.in_ok-leave_where.ensures.left start.base done.history done.ready.behind.stands) c.in_ok-leave_where.ensures.out c.in_ok-leave_where.ensures.only

pub returns-clause-serves : goal.returns-clause-serves
returns-clause-serves g c = c.in_ok-leave_where.ensures.serves (g.D.Dir.states c.answer.new.dir) c.in_ok-ended.ensures.serves
