use Rattle.std.proofs.Common.{drop}
use Rattle.mx_schema.specs.State as plain
use Rattle.mx_schema.specs.Stored.{StoresTuples, stored_list}
use Rattle.mx_schema.proofs.StoredLaws.{PartIndexed}
use Rattle.mx_slow_state.proofs.slow_state.index_tuples.Given as goal

-- the tuples that stand under their keys, and those to come
abbrev pub invariant-loop-one : goal.invariant-loop-one
invariant-loop-one l =
    (all : plain.Tuples) → StoresTuples (stored_list l.kept) all → PartIndexed l.def all (stored_list l.indexed.items) (stored_list (drop l.one-index l.kept))
