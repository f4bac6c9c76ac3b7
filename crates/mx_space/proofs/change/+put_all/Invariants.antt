use Rattle.std.proofs.Common.{length}
use Rattle.mx_space.proofs.change.+put_all.Given as goal

abbrev pub decreases-put_all : goal.decreases-put_all
decreases-put_all l = length l.indexes.now
