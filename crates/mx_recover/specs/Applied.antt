-- What is left of a transaction whose rows couldn't all be applied to a state in memory.
use Rattle.std.specs.Prelude.{◌≡◌, ℕ, ◌≤◌, true, List, length, Some, slice_get, take}
use Rattle.mx_base.specs.declared.refusal.Refusal.{Refusal}
use Rattle.mx_base.specs.declared.refusal.Refusal.TheVariants.{OutOfMemory}
use Rattle.mx_row.specs.declared.row.Row.{Row}
use Rattle.mx_schema.specs.State.{State}
use Rattle.mx_space.specs.declared.state.State as coded
use Rattle.mx_space.specs.Stored.{Holds}
use Rattle.mx_write.specs.Judge.{row_refusal}
use Rattle.mx_recover.specs.declared.apply.ApplyFault.{ApplyFault}
use Rattle.mx_recover.specs.declared.apply.ApplyFault.TheVariants.{Row as RefusedRow, NoMemory}
use Rattle.mx_model.specs.Answers.{state_after_rows}
use Rattle.mx_directory.specs.Directories.{takes_rows}

-- the state takes the first rows, so many of them, and memory holds what they make of it
abbrev pub HasApplied : State → List Row → coded.State → (count : ℕ) → Type 0
HasApplied before rows memory count = (takes_rows before (take count rows) ≡ true) × Holds memory (state_after_rows before (take count rows))

-- the rows before the first that the state refuses are applied, or, where memory ran out, some of the first ones
abbrev pub IsApplyFault : State → List Row → coded.State → ApplyFault → Type 0
IsApplyFault before rows memory (RefusedRow place refusal) =
    HasApplied before rows memory place × (row : Row) × (slice_get rows place ≡ Some row)
    × (row_refusal (state_after_rows before (take place rows)) row ≡ Some refusal)
IsApplyFault before rows memory NoMemory = (count : ℕ) × (count ≤ length rows) × HasApplied before rows memory count

-- out of memory, or the row's refusal, which is another
abbrev pub IsFaultOf : (place : ℕ) (refusal : Refusal) → ApplyFault → Type 0
IsFaultOf place refusal (RefusedRow at why) = (at ≡ place) × (why ≡ refusal) × (refusal ≡ OutOfMemory → ⊥)
IsFaultOf place refusal NoMemory = refusal ≡ OutOfMemory
