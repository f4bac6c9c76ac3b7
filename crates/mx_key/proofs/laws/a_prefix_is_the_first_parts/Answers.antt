use Rattle.mx_key.proofs.PrefixLaws.{key_ends}
use Rattle.mx_key.proofs.laws.a_prefix_is_the_first_parts.Goals as goal

pub returns : goal.returns
returns c = key_ends
