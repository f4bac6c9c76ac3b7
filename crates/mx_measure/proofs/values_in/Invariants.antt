use Rattle.std.proofs.Common.{length}
use Rattle.mx_measure.proofs.values_in.Given as goal

-- how many bytes are left
abbrev pub decreases-loop-size : goal.decreases-loop-size
decreases-loop-size l = length l.rest
