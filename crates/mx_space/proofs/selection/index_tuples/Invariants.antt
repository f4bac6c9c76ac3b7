use Rattle.mx_schema.specs.State as plain
use Rattle.mx_schema.specs.Stored.{StoresTuples}
use Rattle.mx_schema.proofs.StoredLaws.{PartIndexed}
use Rattle.mx_space.proofs.selection.index_tuples.Given as goal

-- what is indexed so far, and the tuples to come
abbrev pub invariant-loop-key : goal.invariant-loop-key
invariant-loop-key l = (all : plain.Tuples) → StoresTuples l.tuples.entries all → PartIndexed l.def all l.indexed.entries l.key-iterator
