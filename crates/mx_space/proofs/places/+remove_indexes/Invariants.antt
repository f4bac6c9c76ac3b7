use Rattle.std.proofs.Common.{length}
use Rattle.mx_space.proofs.places.+remove_indexes.Given as goal

abbrev pub decreases-remove_indexes : goal.decreases-remove_indexes
decreases-remove_indexes l = length l.defs.now
