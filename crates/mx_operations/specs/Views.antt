-- What a clause sees of an `Operation`: its parts without where they lie in memory.
use Rattle.mx_operations.specs.Operations as operations
use Rattle.mx_operations.specs.declared.operation.Operation.{Operation}
use Rattle.mx_operations.specs.declared.operation.Operation.TheVariants.{Assign, Insert, Delete, Add, Subtract, And, Or, Xor, Splice}

abbrev pub operation_view : Operation → operations.Operation
operation_view (Assign field value) = operations.Assign field value.now
operation_view (Insert field value) = operations.Insert field value.now
operation_view (Delete field count) = operations.Delete field count
operation_view (Add field operand) = operations.Add field operand
operation_view (Subtract field operand) = operations.Subtract field operand
operation_view (And field operand) = operations.And field operand
operation_view (Or field operand) = operations.Or field operand
operation_view (Xor field operand) = operations.Xor field operand
operation_view (Splice field position cut text) = operations.Splice field position cut text.now
