-- The state that memory holds: each space with its tuples and the entries of its indexes.
use Rattle.std.specs.Prelude.{ℕ, List, Option, Some, None}
use Rattle.mx_schema.specs.declared.schema.Schema.{Schema}
use Rattle.mx_schema.specs.Catalogues.{schema_of}
use Rattle.mx_schema.specs.Sound.{IsSound}
use Rattle.mx_schema.specs.State.{State, Tuples, tuples_in}
use Rattle.mx_schema.specs.Stored.{StoresNone}
use Rattle.mx_space.specs.declared.space.Space.{Space}
use Rattle.mx_space.specs.declared.spaces.SpaceEntry.{SpaceEntry}
use Rattle.mx_space.specs.declared.state.State as coded
use Rattle.mx_space.specs.Kept.{StoresIndexed}
use Rattle.mx_space.specs.Spaces.{space_under}

-- what memory has of a space, where it has something
abbrev pub HoldsSpace : (schema : Option Schema) → Option Space → Tuples → Type 0
HoldsSpace schema None tuples = StoresNone schema tuples
HoldsSpace schema (Some space) tuples = StoresIndexed schema space tuples

-- these have the tuples of each space, where spaces are described so
abbrev pub SpacesHold : (schemas : ℕ → Option Schema) → List SpaceEntry → State → Type 0
SpacesHold schemas entries state = (id : ℕ) → HoldsSpace (schemas id) (space_under id entries) (tuples_in state id)

-- memory has them
abbrev pub HoldsBy : (schemas : ℕ → Option Schema) → coded.State → State → Type 0
HoldsBy schemas memory state = SpacesHold schemas memory.spaces.entries.items state

-- memory has the tuples of a sound state and what describes its spaces
pub record Holds (memory : coded.State) (state : State) : Type 0 where
  pub spaces : HoldsBy (schema_of state) memory state
  pub sound : IsSound state
