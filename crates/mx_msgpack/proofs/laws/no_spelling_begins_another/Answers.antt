use Rattle.mx_msgpack.proofs.ClaimLaws.{begins_no_other}
use Rattle.mx_msgpack.proofs.laws.no_spelling_begins_another.Goals as goal

pub returns : goal.returns
returns c = begins_no_other
