use Rattle.std.proofs.Common.{◌≡◌, ◌||◌, ℕ, ◌<◌, ◌≤◌, false}
use Rattle.mx_tracker.specs.Marks.{is_marked, slots}
use Rattle.mx_tracker.proofs.mark_set.MarkSet.add.Given as goal

abbrev pub invariant-loop-slot : goal.invariant-loop-slot
invariant-loop-slot l = record {
  done : (slot : ℕ) → slot < l.slot → is_marked l.self-inside.marks slot ≡ (is_marked l.fn.self slot || is_marked l.other-inside.marks slot);
  left : (slot : ℕ) → l.slot ≤ slot → is_marked l.self-inside.marks slot ≡ is_marked l.fn.self slot;
  bounded : l.self-inside.used ≤ slots;
  none : (slot : ℕ) → l.self-inside.used ≤ slot → is_marked l.fn.self slot ≡ false;
}
