use Rattle.mx_update.proofs.OperationLaws.{array_is_read}
use Rattle.mx_update.proofs.laws.operations_without_fault_are_read.Goals as goal

pub returns : goal.returns
returns c = array_is_read
