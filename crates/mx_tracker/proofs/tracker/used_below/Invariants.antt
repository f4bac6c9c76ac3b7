use Rattle.std.proofs.Common.{◌≤◌}
use Rattle.mx_tracker.specs.Tracks.{AreEmptyFrom}
use Rattle.mx_tracker.proofs.tracker.used_below.Given as goal

abbrev pub invariant-loop-used : goal.invariant-loop-used
invariant-loop-used l = record {
  less : l.used ≤ l.initial.used;
  empty : AreEmptyFrom l.notes l.used;
}

abbrev pub decreases-loop-used : goal.decreases-loop-used
decreases-loop-used l = l.used
