use Rattle.std.proofs.Common.{refl}
use Rattle.mx_session.proofs.session.Session.peek.Goals as goal

pub returns-in-Broken : goal.returns-in-Broken
returns-in-Broken c = (c.self.inside.framer.rest, rw (← c.self.view_is, c.if-self.false, c.in-Broken.ensures.0, c.broken_job.ensures.job, c.broken_job.ensures.ends) refl)
