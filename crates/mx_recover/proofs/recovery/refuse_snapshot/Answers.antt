use Rattle.mx_recover.proofs.FileLaws.{none_last}
use Rattle.mx_recover.proofs.recovery.refuse_snapshot.Goals as goal

pub returns-in_default-clause-none : goal.returns-in_default-clause-none
returns-in_default-clause-none c = none_last _ c.in_default.ensures
