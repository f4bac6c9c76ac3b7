use Rattle.mx_top.proofs.ProgressLaws.{passes_on}
use Rattle.mx_top.proofs.delivery.deliver.Goals as goal

pub returns-clause-passes : goal.returns-clause-passes
returns-clause-passes g c = passes_on _ _ _ c.write_all.ensures.passes c.flush.ensures.passed
