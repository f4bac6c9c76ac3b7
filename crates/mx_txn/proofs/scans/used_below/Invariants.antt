use Rattle.std.proofs.Common.{◌≤◌}
use Rattle.mx_txn.specs.Views.{AreVacantFrom}
use Rattle.mx_txn.proofs.scans.used_below.Given as goal

abbrev pub invariant-loop-used : goal.invariant-loop-used
invariant-loop-used l = record {
  less : l.used ≤ l.initial.used;
  vacant : AreVacantFrom l.states l.used;
}

abbrev pub decreases-loop-used : goal.decreases-loop-used
decreases-loop-used l = l.used
