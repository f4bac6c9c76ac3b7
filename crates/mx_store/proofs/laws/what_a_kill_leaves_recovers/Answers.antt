use Rattle.mx_store.proofs.AgainLaws.{read_recovers}
use Rattle.mx_store.proofs.laws.what_a_kill_leaves_recovers.Goals as goal

pub returns : goal.returns
returns c = read_recovers
