use Rattle.mx_operations.proofs.OperandLaws.{elements_stand}
use Rattle.mx_operations.proofs.reading.read_operation.Goals as goal

pub returns : goal.returns
returns c =
    rw (elements_stand c.args.bytes.now c.in-Some.elements.count c.in-Some.elements.bytes.now c.parted.result.0.now c.parted.result.1.now
    c.in-Some.ensures c.if-elements-eq0.false c.parted.ensures.first c.parted.ensures.after) c.operation_by_name.ensures
