use Rattle.std.proofs.Common.{length}
use Rattle.mx_space.proofs.places.+clear_all.Given as goal

abbrev pub decreases-clear_all : goal.decreases-clear_all
decreases-clear_all l = length l.indexes.now
