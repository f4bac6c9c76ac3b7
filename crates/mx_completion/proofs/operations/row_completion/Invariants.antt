use Rattle.mx_completion.proofs.OperationCompletions.{Passed}
use Rattle.mx_completion.proofs.operations.row_completion.Given as goal

abbrev pub invariant-loop-left : goal.invariant-loop-left
invariant-loop-left l = Passed l.count l.bytes l.left l.rest

abbrev pub decreases-loop-left : goal.decreases-loop-left
decreases-loop-left l = l.left
