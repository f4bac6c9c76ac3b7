-- What a fault says: why operations can't be read, or why they make no tuple.
use Rattle.std.specs.Prelude.{◌≡◌, ⊤, ℕ, List, Result, Err}
use Rattle.mx_operations.specs.declared.fault.ShapeFault.TheVariants as shape
use Rattle.mx_operations.specs.declared.fault.OperationFault.{OperationFault}
use Rattle.mx_operations.specs.Operations.{Operation}
use Rattle.mx_update.specs.declared.fault.OpFault.{OpFault}
use Rattle.mx_update.specs.declared.fault.OpFault.TheVariants as fault
use Rattle.mx_update.specs.Updates.{UpdateFailure, Failed, TooLong, Argument, Overflow}

-- the bytes spell no operations, or memory ran out
abbrev pub IsShapeFault : OpFault → Result (List Operation) OperationFault → Type 0
IsShapeFault fault.Unknown read = (place : ℕ) × (read ≡ Err (record { place = place; fault = shape.UnknownOperator }))
IsShapeFault (fault.Argument place) read = read ≡ Err (record { place = place; fault = shape.BadArgument })
IsShapeFault fault.NoMemory read = ⊤
IsShapeFault _ read = ⊥

-- the operations make no tuple, or memory ran out
abbrev pub IsUpdateFault : {X : Type 0} → OpFault → Result X UpdateFailure → Type 0
IsUpdateFault (fault.Argument place) made = made ≡ Err (Failed place Argument)
IsUpdateFault (fault.Overflow place) made = made ≡ Err (Failed place Overflow)
IsUpdateFault (fault.TooLong bytes) made = made ≡ Err (TooLong bytes)
IsUpdateFault fault.NoMemory made = ⊤
IsUpdateFault fault.Unknown made = ⊥

-- the tuple is too long, or memory ran out
abbrev pub IsLengthFault : OpFault → Result (List ℕ) UpdateFailure → Type 0
IsLengthFault (fault.TooLong bytes) made = made ≡ Err (TooLong bytes)
IsLengthFault fault.NoMemory made = ⊤
IsLengthFault _ made = ⊥
