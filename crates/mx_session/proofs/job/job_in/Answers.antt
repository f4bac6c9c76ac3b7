use Rattle.std.proofs.Common.{◌∙◌, ap}
use Rattle.mx_session.specs.Jobs.{job_of}
use Rattle.mx_session.proofs.job.job_in.Goals as goal

pub returns : goal.returns
returns c = c.job_of.ensures ∙ ap (job_of c.args.connection.0) c.read_packet.ensures
