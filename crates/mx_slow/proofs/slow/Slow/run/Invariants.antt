use Rattle.std.proofs.Common.{List, length, ◌≤◌}
use Rattle.std.specs.List.{AllZip}
use Rattle.mx_model.specs.Overlaps.{TransactionStep, state_after_first}
use Rattle.mx_slow.specs.Slow.{IsSlow, KeepsStep}
use Rattle.mx_model.specs.Streams.{Streams}
use Rattle.mx_slow.proofs.SlowRunLaws.{PartRun}
use Rattle.mx_slow.proofs.slow.Slow.run.Given as goal

-- the last statements ran
abbrev pub invariant-loop-step : goal.invariant-loop-step
invariant-loop-step l =
    (streams : Streams) (all : List TransactionStep) → IsSlow l.self streams → l.place ≤ length streams.journal → AllZip KeepsStep l.steps all
    → PartRun l.run l.self.ids (state_after_first streams.base.state streams.journal l.place) l.left all

abbrev pub decreases-loop-step : goal.decreases-loop-step
decreases-loop-step l = length l.left
