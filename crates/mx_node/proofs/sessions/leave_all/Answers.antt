use Rattle.std.proofs.Common.{sym, subst, take}
use Rattle.std.proofs.lemmas.List.{take_all}
use Rattle.mx_engine.specs.Standing.{EngineStandsFor}
use Rattle.mx_node.specs.Serving.{left_from}
use Rattle.mx_node.proofs.TableLaws.{left_from-next}
use Rattle.mx_node.proofs.sessions.leave_all.Goals as goal

pub loop-number-preserved : goal.loop-number-preserved
loop-number-preserved c = λ base history stands.
    let sessions = c.args.sessions.now in
    let number = c.loop-number.number in
    let next = left_from-next number sessions c.index-sessions-number.result history c.loop-number-test.true c.index-sessions-number.is in
    subst (λ h. EngineStandsFor c.leave_one.new.engine base h) (sym next)
    (c.in_ok-leave_one.ensures base (left_from 0 (take number sessions) history) (c.loop-number.invariant base history stands))

pub returns : goal.returns
returns c = λ base history stands.
    let sessions = c.args.sessions.now in
    subst (λ l. EngineStandsFor c.loop-number.engine base (left_from 0 l history)) (take_all c.loop-number.number sessions c.loop-number-test.false)
    (c.loop-number.invariant base history stands)
