use Rattle.std.proofs.Common.{◌≡◌, drop}
use Rattle.mx_space.specs.ShownRows.{rows_left}
use Rattle.mx_space.proofs.shown_rows.ShownRows.pass_over.Given as goal

-- skipping what remains to be skipped leads where the whole does
abbrev pub invariant-loop-left : goal.invariant-loop-left
invariant-loop-left l = drop l.left (rows_left l.self) ≡ drop l.fn.count (rows_left l.fn.self)

abbrev pub decreases-loop-left : goal.decreases-loop-left
decreases-loop-left l = l.left
