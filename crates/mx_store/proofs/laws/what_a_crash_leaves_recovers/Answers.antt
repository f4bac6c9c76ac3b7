use Rattle.mx_store.proofs.AgainLaws.{left_recovers}
use Rattle.mx_store.proofs.laws.what_a_crash_leaves_recovers.Goals as goal

pub returns : goal.returns
returns c = left_recovers
