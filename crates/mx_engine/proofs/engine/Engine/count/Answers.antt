use Rattle.mx_engine.proofs.StandingLaws.{count_is_length}
use Rattle.mx_engine.proofs.engine.Engine.count.Goals as goal

pub returns-clause-steps : goal.returns-clause-steps
returns-clause-steps c = λ base history stands. count_is_length c.args.self.now base history stands
