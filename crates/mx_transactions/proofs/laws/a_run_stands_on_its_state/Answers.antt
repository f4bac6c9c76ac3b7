use Rattle.mx_transactions.proofs.OpenLaws.{run_stands}
use Rattle.mx_transactions.proofs.laws.a_run_stands_on_its_state.Goals as goal

pub returns : goal.returns
returns c = run_stands
