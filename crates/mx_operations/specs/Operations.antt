-- Update operations, and the arrays that spell them (IPROTO, "IPROTO_UPDATE"): an operator, a field number, and arguments.
use Rattle.std.specs.Prelude.{ℕ, suc, ℤ, List, [], ◌∷◌, Option, Some, None, Result, Ok, Err, nat_lt, nat_le, ◌==◌, if◌then◌else◌}
use Rattle.std.specs.Option.{ok_or, option_map}
use Rattle.mx_msgpack.specs.Projections.{as_int, as_text, first_as}
use Rattle.mx_msgpack.specs.Readers.{◌>>=◌, unsigned_in}
use Rattle.mx_msgpack.specs.Items.{items_of}
use Rattle.mx_operations.specs.declared.fault.ShapeFault.{ShapeFault}
use Rattle.mx_operations.specs.declared.fault.ShapeFault.TheVariants.{UnknownOperator, BadArgument}
use Rattle.mx_operations.specs.declared.fault.OperationFault.{OperationFault}
use Rattle.mx_operations.specs.declared.operator.Operator.{Operator}
use Rattle.mx_operations.specs.declared.operator.Operator.TheVariants as operator

-- What is done to a field, which is counted from the front or, below 0, from the end. A value is its spelling.
pub data Operation : Type 0 where
  Assign : (field : ℤ) (value : List ℕ) → Operation
  Insert : (field : ℤ) (value : List ℕ) → Operation
  Delete : (field : ℤ) (count : ℕ) → Operation
  Add : (field operand : ℤ) → Operation
  Subtract : (field operand : ℤ) → Operation
  And : (field : ℤ) (operand : ℕ) → Operation
  Or : (field : ℤ) (operand : ℕ) → Operation
  Xor : (field : ℤ) (operand : ℕ) → Operation
  Splice : (field position cut : ℤ) (text : List ℕ) → Operation

-- the maximum number of operations of a request
abbrev pub max_operations : ℕ
max_operations = 4000

-- how many fields are deleted: one at least
abbrev pub one_or_more : ℕ → Option ℕ
one_or_more count = if nat_le 1 count then Some count else None

-- the operator of a letter: `=`, `!`, `#`, `+`, `-`, `&`, `|`, `^` or `:`
abbrev pub operator_of : (letter : ℕ) → Option Operator
operator_of letter =
    if letter == 61 then Some operator.Assign
    else if letter == 33 then Some operator.Insert
    else if letter == 35 then Some operator.Delete
    else if letter == 43 then Some operator.Add
    else if letter == 45 then Some operator.Subtract
    else if letter == 38 then Some operator.And
    else if letter == 124 then Some operator.Or
    else if letter == 94 then Some operator.Xor
    else if letter == 58 then Some operator.Splice
    else None

-- a text is cut at a position, and some of it replaced
abbrev pub splice_of : (field : ℤ) → (position cut text : List ℕ) → Option Operation
splice_of field position cut text = do
  from ← first_as as_int position
  size ← first_as as_int cut
  inserted ← first_as as_text text
  Some (Splice field from size inserted)

-- an operator with these arguments, all of them
abbrev pub operation_of : Operator → (field : ℤ) → List (List ℕ) → Option Operation
operation_of operator.Assign field (value ∷ []) = Some (Assign field value)
operation_of operator.Insert field (value ∷ []) = Some (Insert field value)
operation_of operator.Delete field (count ∷ []) = option_map (Delete field) (unsigned_in count >>= one_or_more)
operation_of operator.Add field (number ∷ []) = option_map (Add field) (first_as as_int number)
operation_of operator.Subtract field (number ∷ []) = option_map (Subtract field) (first_as as_int number)
operation_of operator.And field (number ∷ []) = option_map (And field) (unsigned_in number)
operation_of operator.Or field (number ∷ []) = option_map (Or field) (unsigned_in number)
operation_of operator.Xor field (number ∷ []) = option_map (Xor field) (unsigned_in number)
operation_of operator.Splice field (position ∷ cut ∷ text ∷ []) = splice_of field position cut text
operation_of _ _ _ = None

-- an operator, a field number and its arguments
abbrev pub operation_with : Operator → (operands : List (List ℕ)) → Option Operation
operation_with operator [] = None
operation_with operator (field ∷ arguments) = first_as as_int field >>= (λ number. operation_of operator number arguments)

abbrev pub operation_by_operator : Option Operator → (operands : List (List ℕ)) → Result Operation ShapeFault
operation_by_operator None operands = Err UnknownOperator
operation_by_operator (Some operator) operands = ok_or (operation_with operator operands) BadArgument

-- by the text that names the operator, which has one byte
abbrev pub operation_by_name : Option (List ℕ) → (operands : List (List ℕ)) → Result Operation ShapeFault
operation_by_name (Some (letter ∷ [])) operands = operation_by_operator (operator_of letter) operands
operation_by_name _ operands = Err BadArgument

abbrev pub operation_by : Option (List (List ℕ)) → Result Operation ShapeFault
operation_by (Some (name ∷ operands)) = operation_by_name (first_as as_text name) operands
operation_by _ = Err BadArgument

-- the operation that these bytes spell, or why they spell none: the operator is judged before its operands
unfoldable pub operation_in : List ℕ → Result Operation ShapeFault
operation_in bytes = operation_by (items_of bytes)

-- an operation, and those that follow it
abbrev pub operation_and_others : (place : ℕ) → Result Operation ShapeFault → Result (List Operation) OperationFault → Result (List Operation) OperationFault
operation_and_others place (Err fault) others = Err (record { place = place; fault = fault })
operation_and_others place (Ok operation) (Err fault) = Err fault
operation_and_others place (Ok operation) (Ok others) = Ok (operation ∷ others)

-- the operations that these spell, counted from this place, or the first fault; the 4,001st is one too many
abbrev pub operations_from : (place : ℕ) → List (List ℕ) → Result (List Operation) OperationFault
operations_from place [] = Ok []
operations_from place (spelling ∷ others) =
    if nat_lt place max_operations then operation_and_others place (operation_in spelling) (operations_from (suc place) others)
    else Err (record { place = place; fault = BadArgument })

-- the operations that an array spells; bytes that aren't one array have a fault in the place 0
abbrev pub operations_by : Option (List (List ℕ)) → Result (List Operation) OperationFault
operations_by None = Err (record { place = 0; fault = BadArgument })
operations_by (Some spellings) = operations_from 0 spellings

abbrev pub operations_in : List ℕ → Result (List Operation) OperationFault
operations_in bytes = operations_by (items_of bytes)
