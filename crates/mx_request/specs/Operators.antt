-- Why an array isn't one of update operations, as a refusal.
use Rattle.std.specs.Prelude.{ℕ, List, Option, Some, None, Result, Ok, Err}
use Rattle.std.specs.Option.{option_and_then, option_map}
use Rattle.mx_msgpack.specs.Projections.{as_array, first_as}
use Rattle.mx_msgpack.specs.Items.{values_from}
use Rattle.mx_base.specs.declared.refusal.Refusal.{Refusal}
use Rattle.mx_base.specs.declared.refusal.Refusal.TheVariants as refusal
use Rattle.mx_operations.specs.declared.fault.ShapeFault.{ShapeFault}
use Rattle.mx_operations.specs.declared.fault.ShapeFault.TheVariants.{UnknownOperator, BadArgument}
use Rattle.mx_operations.specs.declared.fault.OperationFault.{OperationFault}
use Rattle.mx_operations.specs.Operations.{Operation, operations_from}

-- the refusal of the operation in this place
abbrev pub shape_refusal : (place : ℕ) → ShapeFault → Refusal
shape_refusal place UnknownOperator = refusal.UnknownOperator
shape_refusal place BadArgument = refusal.BadArgument place

abbrev pub operation_refusal : OperationFault → Refusal
operation_refusal fault = shape_refusal fault.place fault.fault

abbrev pub refused : Result (List Operation) OperationFault → Option Refusal
refused (Ok operations) = None
refused (Err fault) = Some (operation_refusal fault)

-- the spellings of the values of an array
abbrev pub elements_in : List ℕ → Option (List (List ℕ))
elements_in value = option_map (λ array. values_from array.0 array.1) (first_as as_array value)

-- why an array isn't one of update operations
abbrev pub shape_fault : List ℕ → Option Refusal
shape_fault operations = option_and_then (λ spellings. refused (operations_from 0 spellings)) (elements_in operations)
