-- UPDATE.
use Rattle.std.specs.Prelude.{ℕ, List, [], ◌∷◌, Option, Some, None, Result, Ok, Err, if◌then◌else◌}
use Rattle.mx_base.specs.declared.refusal.Refusal.{Refusal}
use Rattle.mx_base.specs.declared.refusal.Refusal.TheVariants.{BadArgument, IntegerOverflow, PrimaryKeyChanged, TupleTooLong, UnknownOperator}
use Rattle.mx_key.specs.Keys.{Key}
use Rattle.mx_operations.specs.declared.fault.OperationFault.{OperationFault}
use Rattle.mx_operations.specs.declared.fault.ShapeFault.{ShapeFault}
use Rattle.mx_operations.specs.declared.fault.ShapeFault.TheVariants as shape
use Rattle.mx_operations.specs.Operations as operations
use Rattle.mx_operations.specs.Operations.{operations_in}
use Rattle.mx_row.specs.Rows.{update_type}
use Rattle.mx_schema.specs.declared.index_def.IndexDef.{IndexDef}
use Rattle.mx_schema.specs.declared.schema.Schema.{Schema}
use Rattle.mx_schema.specs.Picks.{Indexed}
use Rattle.mx_schema.specs.State.{State}
use Rattle.mx_update.specs.Updates.{Argument, Failed, Overflow, TooLong, UpdateFailure, updated}
use Rattle.mx_write.specs.Checks.{tuple_fault}
use Rattle.mx_write.specs.Judged.{Judged, found, judged_as, reads_of, unless, ◌>>=◌}
use Rattle.mx_write.specs.Lookup.{entry_with, other_indexes, own_key, the_key, the_primary, the_space, the_unique_index}
use Rattle.mx_write.specs.Reads.{key_read}
use Rattle.mx_write.specs.Made.{Made, made, nothing}
use Rattle.mx_write.specs.Writes.{Write, Update}
use Rattle.mx_write.specs.Unique.{are_free, is_same_key}
use Rattle.mx_write.specs.declared.writable.Writer.{Writer}
use Rattle.mx_write.specs.Writable.{primary_name, tuple_in_space, write_refusal}

-- ---- operations

abbrev pub shape_fault_refusal : (place : ℕ) → ShapeFault → Refusal
shape_fault_refusal place shape.UnknownOperator = UnknownOperator
shape_fault_refusal place shape.BadArgument = BadArgument place

-- the operations that an array spells
abbrev pub operations_or_refusal : Result (List operations.Operation) OperationFault → Result (List operations.Operation) Refusal
operations_or_refusal (Ok read) = Ok read
operations_or_refusal (Err fault) = Err (shape_fault_refusal fault.place fault.fault)

abbrev pub the_operations : (array : List ℕ) → Judged (List operations.Operation)
the_operations array = judged_as (operations_or_refusal (operations_in array))

abbrev pub failure_refusal : UpdateFailure → Refusal
failure_refusal (Failed place Argument) = BadArgument place
failure_refusal (Failed place Overflow) = IntegerOverflow place
failure_refusal (TooLong bytes) = TupleTooLong bytes

-- the tuple that operations make, or why they make none
abbrev pub tuple_or_refusal : Result (List ℕ) UpdateFailure → Result (List ℕ) Refusal
tuple_or_refusal (Ok tuple) = Ok tuple
tuple_or_refusal (Err failure) = Err (failure_refusal failure)

-- ---- a tuple in the place of the one that it was made of

abbrev pub key_change : Schema → (one other : Key) → Option Refusal
key_change schema one other = if is_same_key one other then None else Some (PrimaryKeyChanged schema.def.name)

-- a write that puts a tuple in the place of the one with this primary key, which has to stay
abbrev pub put_in_place : State → (space : ℕ) → Schema → (primary : IndexDef) → Write → Key → (tuple : List ℕ) → (shown : List (List ℕ)) → Judged Made
put_in_place before space schema primary write key tuple shown = do
  _ ← unless (tuple_fault schema primary tuple)
  _ ← unless (key_change schema (own_key primary tuple) key)
  _ ← are_free before space schema primary (Some key) tuple (other_indexes schema.indexes)
  made space write key (Some tuple) shown

-- ---- UPDATE

module _ (writer : Writer) (before : State) (space index base : ℕ) (key operations : List ℕ) where
  -- the tuple that was found, after the operations
  abbrev pub update_found : Schema → (primary : IndexDef) → Option Indexed → Judged Made
  update_found schema primary None = found nothing
  update_found schema primary (Some (own, old)) = do
    _ ← unless (write_refusal writer space update_type (Some old))
    applied ← the_operations operations
    new ← judged_as (tuple_in_space writer space (tuple_or_refusal (updated base old applied)))
    put_in_place before space schema primary (Update index base key operations) own new (new ∷ [])

  -- the tuple that has this key in a unique index is changed by the operations
  unfoldable pub updates : Judged Made
  updates = do
    schema ← the_space before space
    _ ← unless (write_refusal writer space update_type (primary_name index key))
    def ← the_unique_index space schema index
    primary ← the_primary schema
    asked ← the_key def key
    _ ← reads_of (key_read space index asked ∷ [])
    update_found schema primary (entry_with before space primary def asked)
