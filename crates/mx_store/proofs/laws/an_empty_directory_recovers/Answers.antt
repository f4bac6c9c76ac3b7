use Rattle.mx_store.proofs.AgainLaws.{none_recovers}
use Rattle.mx_store.proofs.laws.an_empty_directory_recovers.Goals as goal

pub returns : goal.returns
returns c = none_recovers
