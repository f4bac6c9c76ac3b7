use Rattle.std.proofs.Common.{◌≡◌, ◌++◌, ℕ, List, Some, length}
use Rattle.mx_outside.specs.Passed.{PassesOn}
use Rattle.mx_top.proofs.delivery.write_all.Given as goal

-- what the output held is followed by a prefix of the bytes, the rest of them is still to be written, and what was passed on stays
abbrev pub invariant-loop-rest : goal.invariant-loop-rest
invariant-loop-rest g l =
    ((before : List ℕ) → g.K.Sink.contents l.initial.output ≡ Some before → (written : List ℕ)
    × (g.K.Sink.contents l.output ≡ Some (before ++ written)) × (l.bytes ≡ written ++ l.rest))
    × (g.K.Sink.faults l.output ≡ g.K.Sink.faults l.initial.output) × PassesOn (g.K.Sink.passed l.initial.output) (g.K.Sink.passed l.output)

abbrev pub decreases-loop-rest : goal.decreases-loop-rest
decreases-loop-rest g l = length l.rest
