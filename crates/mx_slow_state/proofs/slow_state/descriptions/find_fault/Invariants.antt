use Rattle.std.proofs.Common.{◌≡◌, drop}
use Rattle.std.specs.FinMap.{empty}
use Rattle.mx_schema.specs.State as plain
use Rattle.mx_schema.specs.Stored.{StoresTuples, stored_list}
use Rattle.mx_slow_state.proofs.SlowBuildLaws.{PartSeen}
use Rattle.mx_slow_state.proofs.slow_state.descriptions.find_fault.Given as goal

-- the tuples whose keys were seen have no fault, and the others are to come
abbrev pub invariant-loop-one : goal.invariant-loop-one
invariant-loop-one l =
    (all : plain.Tuples) → StoresTuples (stored_list l.kept) all → (l.def.id.0 ≡ 0 → all ≡ empty) → PartSeen l.def all l.seen.items (stored_list (drop l.one-index l.kept))
