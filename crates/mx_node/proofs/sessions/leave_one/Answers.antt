use Rattle.std.proofs.Common.{sym, ◌∙◌, subst}
use Rattle.mx_engine.specs.Standing.{EngineStandsFor}
use Rattle.mx_node.proofs.TableLaws.{left_one}
use Rattle.mx_node.proofs.sessions.leave_one.Goals as goal

pub returns : goal.returns
returns c = λ base history stands.
    let left = left_one c.args.connection.0 c.args.slot.now c.in-Some.session history c.in-Some.is (sym c.has_ended.ensures ∙ c.if-has_ended.false) in
    subst (λ h. EngineStandsFor c.leave.new.engine base h) (sym left) (c.in_ok-leave.ensures base history stands)
