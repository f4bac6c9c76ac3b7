use Rattle.mx_request.proofs.WrittenLaws.{asked_again}
use Rattle.mx_request.proofs.laws.what_is_asked_is_read_again.Goals as goal

pub returns : goal.returns
returns c = asked_again
