-- The values that keys of rows take.
use Rattle.std.specs.Prelude.{ℕ, List, Option, Some, None, ◌==◌, is_some, if◌then◌else◌}
use Rattle.mx_msgpack.specs.Readers.{◌>>=◌}
use Rattle.mx_vclock.specs.Vclocks.{max_lsn}
use Rattle.mx_request.specs.Operators.{shape_fault}
use Rattle.mx_request.specs.Values.{number_to, array_in}

-- what a value is read as, where there is one
abbrev pub value_held : {X : Type 0} → (List ℕ → Option X) → Option (List ℕ) → Option X
value_held read value = value >>= read

-- an lsn of a row, from 1 to the greatest one
abbrev pub lsn_in : List ℕ → Option ℕ
lsn_in value = do
  number ← number_to max_lsn value
  if number == 0 then None else Some number

-- the number of a tuple's first field, which is 0 where no value says it
abbrev pub base_in : Option (List ℕ) → Option ℕ
base_in None = Some 0
base_in (Some value) = number_to 1 value

-- update operations that have their shape, as their spelling
abbrev pub row_operations_in : List ℕ → Option (List ℕ)
row_operations_in value = do
  operations ← array_in value
  if is_some (shape_fault operations) then None else Some operations
