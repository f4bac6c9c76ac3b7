use Rattle.std.proofs.Common.{◌≡◌, drop}
use Rattle.mx_schema.specs.Picks.{directed}
use Rattle.mx_space.proofs.scan.Scan.pass_over.Given as goal

-- skipping what remains to be skipped leads where the whole does
abbrev pub invariant-loop-left : goal.invariant-loop-left
invariant-loop-left l = drop l.left (directed l.fn.down l.self) ≡ drop l.fn.count (directed l.fn.down l.fn.self)

abbrev pub decreases-loop-left : goal.decreases-loop-left
decreases-loop-left l = l.left
