-- Operations as they are read, one after the other.
use Rattle.std.proofs.Common.{◌≡◌, ℕ, ◌+◌, ◌-◌, ◌<◌, ◌≤◌, true, false, List, [], ◌∷◌, ◌++◌, Some, Result, Ok, Err, refl, sym, ap, ◌∙◌, append_assoc, ltb, lt-ltb, le-ltb}
use Rattle.mx_msgpack.specs.Items.{IsArray, first_value, after_value, values_from}
use Rattle.mx_msgpack.specs.Projections.{as_array, first_as}
use Rattle.mx_msgpack.proofs.ItemLaws.{whole_array}
use Rattle.mx_msgpack.proofs.Options.{same_some}
use Rattle.mx_operations.specs.declared.fault.ShapeFault.{ShapeFault}
use Rattle.mx_operations.specs.declared.fault.ShapeFault.TheVariants.{BadArgument}
use Rattle.mx_operations.specs.declared.fault.OperationFault.{OperationFault}
use Rattle.mx_operations.specs.Operations.{Operation, operation_and_others, max_operations, operation_in, operations_from, operations_in}
use Rattle.mx_operations.proofs.RowLaws.{one_more}

-- operations, and then those that are read after them
abbrev pub then_read : List Operation → Result (List Operation) OperationFault → Result (List Operation) OperationFault
then_read operations (Ok others) = Ok (operations ++ others)
then_read operations (Err fault) = Err fault

abbrev pub then_from : List Operation → (place count : ℕ) → List ℕ → Result (List Operation) OperationFault
then_from operations place count bytes = then_read operations (operations_from place (values_from (count - place) bytes))

pub one_too_many : (operations : List Operation) (place count : ℕ) (bytes : List ℕ) (whole : Result (List Operation) OperationFault) → place < count → max_operations ≤ place
    → then_from operations place count bytes ≡ whole → whole ≡ Err (record { place = place; fault = BadArgument })
one_too_many operations place count bytes whole below many all =
    let known : ltb place max_operations ≡ false = le-ltb place max_operations many in
    let left : operations_from place (values_from (count - place) bytes) ≡ Err (record { place = place; fault = BadArgument }) =
    one_more place count bytes below ∙ rw known refl in
    sym all ∙ ap (then_read operations) left

pub faulty : (operations : List Operation) (place count : ℕ) (bytes spelling : List ℕ) (fault : ShapeFault) (whole : Result (List Operation) OperationFault) → place < count → place < max_operations
    → spelling ≡ first_value bytes → operation_in spelling ≡ Err fault
    → then_from operations place count bytes ≡ whole → whole ≡ Err (record { place = place; fault = fault })
faulty operations place count bytes spelling fault whole below few first told all =
    let known : ltb place max_operations ≡ true = lt-ltb place max_operations few in
    let left : operations_from place (values_from (count - place) bytes) ≡ Err (record { place = place; fault = fault }) =
    one_more place count bytes below ∙ rw (known, ← first, told) refl in
    sym all ∙ ap (then_read operations) left

one_passed : (operations : List Operation) (operation : Operation) (place : ℕ) (rest : Result (List Operation) OperationFault)
    → then_read (operations ++ operation ∷ []) rest ≡ then_read operations (operation_and_others place (Ok operation) rest)
one_passed operations operation place (Ok others) = ap Ok (append_assoc operations (operation ∷ []) others)
one_passed operations operation place (Err fault) = refl

pub passes : (operations : List Operation) (operation : Operation) (place count : ℕ) (bytes spelling rest : List ℕ) (whole : Result (List Operation) OperationFault) → place < count
    → place < max_operations → spelling ≡ first_value bytes → rest ≡ after_value bytes → operation_in spelling ≡ Ok operation
    → then_from operations place count bytes ≡ whole → then_from (operations ++ operation ∷ []) (place + 1) count rest ≡ whole
passes operations operation place count bytes spelling rest whole below few first after told all =
    let known : ltb place max_operations ≡ true = lt-ltb place max_operations few in
    one_passed operations operation place (operations_from (place + 1) (values_from (count - (place + 1)) rest))
    ∙ ap (then_read operations) (sym (one_more place count bytes below ∙ rw (known, ← first, ← after, told) refl))
    ∙ all

-- an array of operations
pub array_is_read : (bytes : List ℕ) (array : ℕ × List ℕ) (all : List Operation) → IsArray bytes → first_as as_array bytes ≡ Some array
    → operations_from 0 (values_from array.0 array.1) ≡ Ok all → operations_in bytes ≡ Ok all
array_is_read bytes array all (own, is) shown read =
    let seen : first_as as_array bytes ≡ Some own = rw (whole_array bytes own is) refl in
    let same = same_some own array (sym seen ∙ shown) in
    rw is (rw same read)
