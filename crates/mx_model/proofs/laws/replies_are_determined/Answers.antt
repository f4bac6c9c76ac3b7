use Rattle.mx_model.proofs.HistoryLaws.{remembered_of_asks}
use Rattle.mx_model.proofs.laws.replies_are_determined.Goals as goal

pub returns : goal.returns
returns c = remembered_of_asks
