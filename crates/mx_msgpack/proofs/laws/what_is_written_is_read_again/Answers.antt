use Rattle.mx_msgpack.proofs.ClaimLaws.{read_again}
use Rattle.mx_msgpack.proofs.laws.what_is_written_is_read_again.Goals as goal

pub returns : goal.returns
returns c = read_again
