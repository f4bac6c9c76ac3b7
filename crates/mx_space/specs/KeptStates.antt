-- States that are kept for those who read an earlier one.
use Rattle.std.specs.Prelude.{ℕ, Option, Some, None, nat_le, if◌then◌else◌}
use Rattle.std.specs.BTreeMap as tree
use Rattle.std.specs.Ordering.{nat_cmp}
use Rattle.mx_schema.specs.declared.schema.Schema.{Schema}
use Rattle.mx_schema.specs.State as plain
use Rattle.mx_space.specs.declared.kept_states.KeptStates.{KeptStates}
use Rattle.mx_space.specs.declared.state.State.{State}
use Rattle.mx_space.specs.Stored.{HoldsBy}

-- the state that is kept as the one after so many commits
abbrev pub kept_at : (commits : ℕ) → KeptStates → Option State
kept_at commits kept = tree.get nat_cmp kept.states commits

-- how many states are kept
abbrev pub kept_count : KeptStates → ℕ
kept_count kept = tree.btree_map_len kept.states

-- memory has in a copy each plain state that it has in the original
abbrev pub IsCopyOf : (original copy : State) → Type 0
IsCopyOf original copy = (schemas : ℕ → Option Schema) (state : plain.State) → HoldsBy schemas original state → HoldsBy schemas copy state

-- what stays of the state after so many commits, where only states from the oldest one on are needed, and none where there is no oldest one
abbrev pub needed_from : (oldest : Option ℕ) → (commits : ℕ) → Option State → Option State
needed_from None commits kept = None
needed_from (Some oldest) commits kept = if nat_le oldest commits then kept else None
