use Rattle.std.proofs.Common.{length}
use Rattle.mx_row.specs.Cuts.{AreSoFar}
use Rattle.mx_row.proofs.cut.stop_in.Given as goal

-- the rows so far stand first, and then the rest
abbrev pub invariant-loop-header : goal.invariant-loop-header
invariant-loop-header l = AreSoFar l.bytes l.rows l.rest

abbrev pub decreases-loop-header : goal.decreases-loop-header
decreases-loop-header l = length l.rest
