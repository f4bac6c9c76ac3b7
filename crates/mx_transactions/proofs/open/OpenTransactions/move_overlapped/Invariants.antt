use Rattle.std.proofs.Common.{◌≤◌, ◌-◌}
use Rattle.mx_transactions.proofs.MoveLaws.{MovesBelow}
use Rattle.mx_transactions.proofs.open.OpenTransactions.move_overlapped.Given as goal

abbrev pub invariant-loop-slot : goal.invariant-loop-slot
invariant-loop-slot l = record {
  within : l.from ≤ 1024;
  below : MovesBelow l.initial.self l.self l.marks l.is_schema l.commits l.from;
}

abbrev pub decreases-loop-slot : goal.decreases-loop-slot
decreases-loop-slot l = 1024 - l.from
