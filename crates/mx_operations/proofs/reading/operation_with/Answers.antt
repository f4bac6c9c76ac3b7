use Rattle.std.proofs.Common.{◌+◌, ◌∙◌, ap, sym}
use Rattle.mx_operations.proofs.OperandLaws.{operands_other, operands_right}
use Rattle.mx_operations.proofs.reading.operation_with.Goals as goal

pub returns-then-operands-argument_count : goal.returns-then-operands-argument_count
returns-then-operands-argument_count c =
    operands_other c.args.operator c.args.operands.count c.args.operands.bytes.now (rw c.argument_count.ensures.count at c.if-operands-argument_count.true)

pub returns : goal.returns
returns c =
    c.operation_of.ensures
    ∙ sym
    (operands_right c.args.operator c.args.operands.count c.args.operands.bytes.now c.parted.result.0.now c.parted.result.1.now
    (c.if-operands-argument_count.false ∙ ap (λ n. 1 + n) c.argument_count.ensures.count) c.parted.ensures.first c.parted.ensures.after)
