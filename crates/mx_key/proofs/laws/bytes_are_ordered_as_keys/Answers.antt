use Rattle.mx_key.proofs.EncodingLaws.{bytes_order, bytes_prefix}
use Rattle.mx_key.proofs.laws.bytes_are_ordered_as_keys.Goals as goal

pub returns-clause-order : goal.returns-clause-order
returns-clause-order c = bytes_order

pub returns-clause-prefix : goal.returns-clause-prefix
returns-clause-prefix c = bytes_prefix
