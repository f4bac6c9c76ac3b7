use Rattle.std.proofs.Common.{◌-◌}
use Rattle.mx_msgpack.specs.Items.{values_from}
use Rattle.mx_operations.specs.Operations.{operations_from}
use Rattle.mx_operations.proofs.RowLaws.{Follows}
use Rattle.mx_operations.proofs.operations.first_fault.Given as goal

-- what is left tells of all
abbrev pub invariant-loop-place : goal.invariant-loop-place
invariant-loop-place l =
    Follows (operations_from 0 (values_from l.operations.count l.operations.bytes.now)) (operations_from l.place (values_from (l.operations.count - l.place) l.rest))
