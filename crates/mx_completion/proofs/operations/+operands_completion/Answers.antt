use Rattle.mx_completion.specs.OperationForms.{IsOperand, AreOperands}
use Rattle.mx_completion.proofs.OperationCompletions.{operands_least}
use Rattle.mx_completion.proofs.SequenceLaws.{missing_first, whole_first}
use Rattle.mx_completion.proofs.operations.+operands_completion.Goals as goal

pub returns-in-Whole-clause-completes : goal.returns-in-Whole-clause-completes
returns-in-Whole-clause-completes t c =
    rw (c.in-Some.ensures.cases.0, c.longer.ensures)
    (whole_first (IsOperand c.in-Some.operand.now) (AreOperands c.in-Some.others.now) c.args.bytes.now c.in-Whole.size c.in-Whole.ensures.completes c.operands_completion.result
    (rw (← c.split_at.ensures.back) c.operands_completion.ensures.completes))

pub returns-in-Missing-clause-completes : goal.returns-in-Missing-clause-completes
returns-in-Missing-clause-completes t c =
    rw c.in-Some.ensures.cases.0
    (missing_first (IsOperand c.in-Some.operand.now) (AreOperands c.in-Some.others.now) c.args.bytes.now c.in-Missing.least _ c.in-Missing.ensures.completes (operands_least c.in-Some.others.now))
