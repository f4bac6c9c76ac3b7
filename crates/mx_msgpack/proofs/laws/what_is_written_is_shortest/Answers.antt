use Rattle.mx_msgpack.proofs.ShortestLaws.{shortest_least}
use Rattle.mx_msgpack.proofs.laws.what_is_written_is_shortest.Goals as goal

pub returns : goal.returns
returns c = shortest_least 64
