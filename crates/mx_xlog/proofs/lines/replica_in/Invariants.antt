use Rattle.std.proofs.Common.{◌<◌, ℕ}
use Rattle.mx_xlog.specs.Lines.{TellsReplica}
use Rattle.mx_xlog.proofs.lines.replica_in.Given as goal

abbrev pub invariant-loop-id : goal.invariant-loop-id
invariant-loop-id l = (id : ℕ) → id < l.id → ¬ TellsReplica id l.line
