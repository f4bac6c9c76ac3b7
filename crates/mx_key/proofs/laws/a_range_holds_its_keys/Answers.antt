use Rattle.mx_key.proofs.RangeLaws.{range_holds}
use Rattle.mx_key.proofs.laws.a_range_holds_its_keys.Goals as goal

pub returns : goal.returns
returns c = range_holds
