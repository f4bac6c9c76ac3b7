use Rattle.std.proofs.Common.{length}
use Rattle.mx_completion.proofs.operations.+operands_completion.Given as goal

abbrev pub decreases-operands_completion : goal.decreases-operands_completion
decreases-operands_completion l = length l.operands.now
