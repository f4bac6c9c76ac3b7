use Rattle.mx_engine.proofs.StandingLaws.{ids_are_those}
use Rattle.mx_engine.proofs.engine.Engine.ids.Goals as goal

pub returns : goal.returns
returns c = λ base history stands. ids_are_those c.args.self.now base history stands
