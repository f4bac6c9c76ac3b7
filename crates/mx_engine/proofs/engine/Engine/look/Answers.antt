use Rattle.mx_engine.proofs.StandingLaws.{stands_looked, stands_refused}
use Rattle.mx_engine.proofs.engine.Engine.look.Goals as goal

pub returns-clause-looked : goal.returns-clause-looked
returns-clause-looked c = stands_looked c.args.self.now

pub returns-clause-refused : goal.returns-clause-refused
returns-clause-refused c = stands_refused c.args.self.now
