use Rattle.std.proofs.Common.{◌≡◌, ◌-◌, ◌≤◌, ◌++◌, ℕ, List, length, take, drop, vec_len, Some}
use Rattle.mx_top.proofs.intake.Intake.fill.Given as goal

-- there is room for all that is needed, and what was read waits
abbrev pub invariant-loop-self : goal.invariant-loop-self
invariant-loop-self g l = record {
  order : l.self-inside.start ≤ l.self-inside.end;
  within : l.self-inside.end ≤ vec_len l.self-inside.buffer;
  room : l.need ≤ vec_len l.self-inside.buffer - l.self-inside.start;
  longer : length l.fn.self ≤ l.self-inside.end - l.self-inside.start;
  quiet : g.S.Source.faults l.source ≡ g.S.Source.faults l.fn.source;
  told : (left : List ℕ) → g.S.Source.left l.fn.source ≡ Some left → (more : List ℕ)
      × (g.S.Source.left l.source ≡ Some more)
      × (l.fn.self ++ left ≡ take (l.self-inside.end - l.self-inside.start) (drop l.self-inside.start l.self-inside.buffer.items) ++ more);
}

abbrev pub decreases-loop-self : goal.decreases-loop-self
decreases-loop-self g l = l.need - (l.self-inside.end - l.self-inside.start)
