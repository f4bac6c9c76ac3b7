use Rattle.mx_txn.proofs.LeastLaws.{IsOldestBelow}
use Rattle.mx_txn.proofs.scans.oldest_of.Given as goal

abbrev pub invariant-loop-state : goal.invariant-loop-state
invariant-loop-state l = IsOldestBelow l.states l.state-index l.oldest
