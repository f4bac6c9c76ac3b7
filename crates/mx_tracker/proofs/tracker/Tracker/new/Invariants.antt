use Rattle.std.proofs.Common.{◌≡◌, length}
use Rattle.std.specs.Vec.{vec_capacity}
use Rattle.mx_tracker.specs.Marks.{slots}
use Rattle.mx_tracker.specs.Tracks.{AreEmptyFrom}
use Rattle.mx_tracker.proofs.tracker.Tracker.new.Given as goal

abbrev pub invariant-loop : goal.invariant-loop
invariant-loop l = record {
  room : vec_capacity l.notes ≡ slots;
  whole : length l.notes.items ≡ l.counter;
  empty : AreEmptyFrom l.notes.items 0;
}
