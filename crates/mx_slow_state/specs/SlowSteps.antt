-- Only private functions and proofs need these: what the plain slow program makes of a state's spaces, and what it gathers.
use Rattle.std.specs.Prelude.{◌≡◌, ◌⊎◌, ◌<◌, ◌≤◌, ⊤, ℕ, List, map, Option, Some, None, Result, MatchResult}
use Rattle.std.specs.BTreeMap.{BTreeMap}
use Rattle.std.specs.List.{AllZip}
use Rattle.mx_key.specs.Keys.{Key}
use Rattle.mx_entries.specs.declared.pick.Pick.{Pick}
use Rattle.mx_entries.specs.declared.pick.SelectStop.{SelectStop}
use Rattle.mx_entries.specs.declared.pick.SelectStop.TheVariants.{TooLong, NoMemory}
use Rattle.mx_schema.specs.declared.schema.Schema.{Schema}
use Rattle.mx_schema.specs.Catalogues.{schema_of}
use Rattle.mx_schema.specs.Picks.{Indexed, total_bytes, max_result_size}
use Rattle.mx_entries.specs.Scans.{picked_of}
use Rattle.mx_entries.specs.Windows.{IsStopped}
use Rattle.mx_schema.specs.State.{State, tuples_in}
use Rattle.mx_schema.specs.Stored.{StoredTuple, stored_list}
use Rattle.mx_space.specs.declared.space.Space.{Space}
use Rattle.mx_slow_state.specs.declared.slow_state.SlowSpace.{SlowSpace}
use Rattle.mx_slow_state.specs.SlowState.{KeepsSpace}

-- there are these spaces with the tuples of a state, where spaces are described so
abbrev pub KeepsBy : (schemas : ℕ → Option Schema) → (spaces : ℕ → Option SlowSpace) → State → Type 0
KeepsBy schemas spaces state = (space : ℕ) → KeepsSpace (schemas space) (spaces space) (tuples_in state space)

-- where the state itself describes them
abbrev pub KeepsState : (spaces : ℕ → Option SlowSpace) → State → Type 0
KeepsState spaces state = KeepsBy (schema_of state) spaces state

-- a space has what another one had
abbrev pub MovesSpace : Space → SlowSpace → Type 0
MovesSpace space moved = (moved.schema ≡ space.schema) × (stored_list moved.tuples.items ≡ space.tuples.entries)

abbrev pub IsMoved : Option Space → Option SlowSpace → Type 0
IsMoved None None = ⊤
IsMoved None (Some moved) = ⊥
IsMoved (Some space) None = ⊥
IsMoved (Some space) (Some moved) = MovesSpace space moved

-- these are the tuples of these entries, or why they weren't gathered
abbrev pub Gathers : List StoredTuple → Result (List (List ℕ)) SelectStop → Type 0
Gathers found result = MatchResult result
    (λ tuples. (tuples ≡ map (λ entry. entry.1) found) × (total_bytes tuples ≤ max_result_size))
    (λ stop. IsStopped stop found)

-- these are the tuples that are picked of an index's entries by this key, or why there are none
abbrev pub Finds : List Indexed → Pick → Key → Result (List (List ℕ)) SelectStop → Type 0
Finds all wanted key result = MatchResult result
    (λ tuples. (tuples ≡ (picked_of all wanted key).tuples) × (total_bytes tuples ≤ max_result_size))
    (λ stop. ((stop ≡ TooLong) × (max_result_size < total_bytes (picked_of all wanted key).tuples)) ⊎ (stop ≡ NoMemory))

-- a space has the same as another one
abbrev pub SameSpace : (one other : SlowSpace) → Type 0
SameSpace one other = (one.schema ≡ other.schema) × (one.tuples.items ≡ other.tuples.items)

abbrev pub SameEntry : (one other : ℕ × SlowSpace) → Type 0
SameEntry one other = (one.0 ≡ other.0) × SameSpace one.1 other.1

-- spaces by number have the same as others
abbrev pub SameSpaces : (one other : BTreeMap ℕ SlowSpace) → Type 0
SameSpaces one other = AllZip SameEntry one.entries other.entries
