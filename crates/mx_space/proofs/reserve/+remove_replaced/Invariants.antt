use Rattle.std.proofs.Common.{length}
use Rattle.mx_space.proofs.reserve.+remove_replaced.Given as goal

abbrev pub decreases-remove_replaced : goal.decreases-remove_replaced
decreases-remove_replaced l = length l.indexes.now
