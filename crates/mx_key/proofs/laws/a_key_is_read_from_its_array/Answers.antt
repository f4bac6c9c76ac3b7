use Rattle.mx_key.proofs.KeyArrayLaws.{array_spelled, key_again}
use Rattle.mx_key.proofs.laws.a_key_is_read_from_its_array.Goals as goal

pub returns-clause-again : goal.returns-clause-again
returns-clause-again c = key_again

pub returns-clause-spelled : goal.returns-clause-spelled
returns-clause-spelled c = array_spelled
