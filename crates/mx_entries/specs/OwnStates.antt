-- A state after own changes.
use Rattle.std.specs.Prelude.{◌≢◌, ℕ, List, [], ◌∷◌, ◌==◌, if◌then◌else◌}
use Rattle.std.specs.FinMap.{empty, insert}
use Rattle.std.specs.List.{AllByRecursion}
use Rattle.mx_schema.specs.State.{State, index_rows, space_rows}
use Rattle.mx_entries.specs.OwnWrites.{OwnWrites}
use Rattle.mx_entries.specs.PlainChanges.{PlainChange, state_with}

-- the writes that changes make in one space, of which the newest change stands first
abbrev pub written_by : (space : ℕ) → List PlainChange → OwnWrites
written_by space [] = empty
written_by space (change ∷ earlier) = if change.space == space then insert (written_by space earlier) change.key change.tuple else written_by space earlier

-- a state after own changes, of which the newest stands first
abbrev pub state_with_own : State → List PlainChange → State
state_with_own base [] = base
state_with_own base (change ∷ earlier) = state_with (state_with_own base earlier) change.space change.key change.tuple

-- no change is of a row that describes a space or an index
abbrev pub AreNoDescriptions : List PlainChange → Type 0
AreNoDescriptions own = AllByRecursion (λ change. (change.space ≢ space_rows) × (change.space ≢ index_rows)) own
