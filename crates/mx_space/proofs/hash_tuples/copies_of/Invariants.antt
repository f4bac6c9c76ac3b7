use Rattle.std.proofs.Common.{◌≡◌, ◌++◌, List}
use Rattle.mx_schema.specs.Stored.{StoredTuple}
use Rattle.mx_space.specs.HashViews.{hash_entries}
use Rattle.mx_space.proofs.hash_tuples.copies_of.Given as goal

-- those that were copied, and those to come
abbrev pub invariant-loop-key : goal.invariant-loop-key
invariant-loop-key l =
    (front : List StoredTuple) × (front ++ l.key-iterator ≡ l.tuples.entries) × (l.ordered.entries ≡ hash_entries front)
