use Rattle.mx_request.proofs.AskableLaws.{asked_is_askable}
use Rattle.mx_request.proofs.laws.what_is_read_can_be_asked.Goals as goal

pub returns : goal.returns
returns c = asked_is_askable
