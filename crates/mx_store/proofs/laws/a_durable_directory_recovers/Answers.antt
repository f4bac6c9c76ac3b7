use Rattle.mx_store.proofs.AgainLaws.{recovers_all}
use Rattle.mx_store.proofs.laws.a_durable_directory_recovers.Goals as goal

pub returns : goal.returns
returns c = λ origin transactions disk past reads durable no_older. recovers_all transactions disk reads.follow durable no_older reads.told past
