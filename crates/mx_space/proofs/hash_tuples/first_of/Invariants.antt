use Rattle.std.proofs.Common.{◌≡◌, ◌++◌, List, take}
use Rattle.mx_schema.specs.Stored.{StoredTuple}
use Rattle.mx_space.specs.HashViews.{hash_entries}
use Rattle.mx_space.proofs.hash_tuples.first_of.Given as goal

-- the first of those that were read, and those to come
abbrev pub invariant-loop-key : goal.invariant-loop-key
invariant-loop-key l =
    (front : List StoredTuple) × (front ++ l.key-iterator ≡ l.tuples.entries) × (l.first.entries ≡ take l.count (hash_entries front))
