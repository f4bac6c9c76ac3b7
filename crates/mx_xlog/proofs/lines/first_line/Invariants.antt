use Rattle.std.specs.Prelude.{take}
use Rattle.mx_xlog.specs.Lines.{IsLine}
use Rattle.mx_xlog.proofs.lines.first_line.Given as goal

abbrev pub invariant-loop-at : goal.invariant-loop-at
invariant-loop-at l = IsLine (take l.at l.bytes)
