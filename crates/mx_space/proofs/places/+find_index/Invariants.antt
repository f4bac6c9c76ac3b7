use Rattle.std.proofs.Common.{length}
use Rattle.mx_space.proofs.places.+find_index.Given as goal

abbrev pub decreases-find_index : goal.decreases-find_index
decreases-find_index l = length l.defs.now
