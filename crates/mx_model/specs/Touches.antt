-- Whether what a commit touches meets what a statement has read.
use Rattle.std.specs.Prelude.{Bool, false, ◌||◌, List, [], ◌∷◌}
use Rattle.mx_row.specs.declared.row.Row.{Row}
use Rattle.mx_schema.specs.State.{State}
use Rattle.mx_write.specs.Judge.{row_change}
use Rattle.mx_write.specs.Reads.{Read}
use Rattle.mx_write.specs.Touches.{are_met, touched_by_change}
use Rattle.mx_model.specs.Answers.{state_after_row}

-- a commit of these rows touches a tuple that meets one of these reads; what each row touches is judged in the state before it
abbrev pub rows_meet : State → List Row → List Read → Bool
rows_meet before [] reads = false
rows_meet before (row ∷ rows) reads =
    are_met before (touched_by_change before (row_change before row)) reads || rows_meet (state_after_row before row) rows reads
