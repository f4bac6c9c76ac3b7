-- What a statement changes of a state: what stands under one primary key of a space.
use Rattle.std.specs.Prelude.{◌&&◌, Option, Some, None, is_none, ◌==◌, if◌then◌else◌}
use Rattle.mx_schema.specs.SchemaChanges.{without_index}
use Rattle.mx_schema.specs.State.{State, index_rows}
use Rattle.mx_entries.specs.PlainChanges.{PlainChange}
pub use Rattle.mx_entries.specs.PlainChanges.{state_with}
use Rattle.mx_write.specs.Descriptions.{index_named_by, space_named_by}

-- the tuple that stands under a primary key of a space afterwards, or none
abbrev pub Change : Type 0
Change = PlainChange

-- a space's tuples go before the row of its primary index
abbrev pub without_dropped : State → Change → State
without_dropped before change =
    if (change.space == index_rows) && is_none change.tuple
    then without_index before (space_named_by change.key) (index_named_by change.key)
    else before

abbrev pub state_after_change : State → Change → State
state_after_change before change = state_with (without_dropped before change) change.space change.key change.tuple

-- the state is as before where nothing is changed
abbrev pub state_after_changed : State → Option Change → State
state_after_changed before None = before
state_after_changed before (Some change) = state_after_change before change
