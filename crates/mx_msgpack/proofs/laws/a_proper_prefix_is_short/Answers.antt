use Rattle.mx_msgpack.proofs.ShortLaws.{prefix_short}
use Rattle.mx_msgpack.proofs.laws.a_proper_prefix_is_short.Goals as goal

pub returns : goal.returns
returns c = prefix_short
