use Rattle.std.proofs.lemmas.Result.{err_from_is_err_and}
use Rattle.mx_write.specs.Views.{write_view}
use Rattle.mx_transactions.specs.Open.{newest_state}
use Rattle.mx_engine.proofs.StatementMemory.{answers_where}
use Rattle.mx_engine.proofs.WriteLaws.{is_writable_node, write_may_lack, write_refused}
use Rattle.mx_engine.proofs.engine.Engine.write.Goals as goal

pub returns-in_err-made-clause-answers : goal.returns-in_err-made-clause-answers
returns-in_err-made-clause-answers c = λ streams name has all counts bytes.
    let old = c.args.self.now in
    let me = is_writable_node old streams c.is_writable.result has c.is_writable.ensures c.if-not-is_writable.false in
    let p = err_from_is_err_and c.from_residual.result c.from_residual.ensures.1 in
    rw (p.1, p.2) (write_refused old streams name c.args.space (write_view c.args.write.now) has me _
    (c.in_err-made.ensures.judges (newest_state streams) (record { holds = c.of.ensures.shown (newest_state streams) has.holds; alone = λ _. c.of.ensures.no_writes })))

pub returns-in-Some-clause-answers : goal.returns-in-Some-clause-answers
returns-in-Some-clause-answers c = λ streams name has all counts bytes.
    let old = c.args.self.now in
    let me = is_writable_node old streams c.is_writable.result has c.is_writable.ensures c.if-not-is_writable.false in
    let (to, judged, makes) = rw c.in-Some.is at (c.in_ok-made.ensures.judges (newest_state streams) (record { holds = c.of.ensures.shown (newest_state streams) has.holds; alone = λ _. c.of.ensures.no_writes })) in
    answers_where _ _ _ streams name _ _ (write_may_lack old streams name c.args.space (write_view c.args.write.now) has me)
    (c.put.ensures.answers streams name (record { has = has; all = all; counts = counts; me = me; bytes = bytes; to = to; judged = judged; makes = makes }))
