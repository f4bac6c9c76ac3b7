use Rattle.std.proofs.Common.{length}
use Rattle.mx_space.proofs.reserve.+remove_added.Given as goal

abbrev pub decreases-remove_added : goal.decreases-remove_added
decreases-remove_added l = length l.indexes.now
