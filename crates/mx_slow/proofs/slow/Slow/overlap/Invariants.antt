use Rattle.std.proofs.Common.{◌≡◌, ◌-◌, drop, length}
use Rattle.mx_model.specs.Overlaps.{Transaction, first_overlap, overlap_of, state_after_first}
use Rattle.mx_slow.specs.Slow.{IsSlow, KeepsTransaction}
use Rattle.mx_model.specs.Streams.{Streams}
use Rattle.mx_slow.proofs.slow.Slow.overlap.Given as goal

-- no commit before overlaps it
abbrev pub invariant-loop-commit : goal.invariant-loop-commit
invariant-loop-commit l =
    (streams : Streams) (one : Transaction) → IsSlow l.self streams → KeepsTransaction l.transaction one
    → overlap_of streams.base.state streams.journal one
    ≡ first_overlap (state_after_first streams.base.state streams.journal l.number) l.number (drop l.number streams.journal) one.steps

abbrev pub decreases-loop-commit : goal.decreases-loop-commit
decreases-loop-commit l = length l.self.commits.items - l.number
