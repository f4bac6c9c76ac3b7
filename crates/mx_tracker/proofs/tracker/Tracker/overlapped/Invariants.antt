use Rattle.std.proofs.Common.{◌≡◌, ℕ, ◌<◌, ◌≤◌, false}
use Rattle.mx_tracker.specs.Marks.{is_marked}
use Rattle.mx_tracker.specs.Overlaps.{is_overlapped}
use Rattle.mx_tracker.specs.Tracks.{noted_reads}
use Rattle.mx_tracker.proofs.tracker.Tracker.overlapped.Given as goal

abbrev pub invariant-loop-slot : goal.invariant-loop-slot
invariant-loop-slot l = record {
  marked : (slot : ℕ) → slot < l.slot → is_marked l.out slot ≡ is_overlapped l.keys (noted_reads l.self-inside.notes.items slot);
  unmarked : (slot : ℕ) → l.slot ≤ slot → is_marked l.out slot ≡ false;
}
