-- Only private functions and proofs need these: the changes that a commit of own writes makes.
use Rattle.std.specs.Prelude.{ℕ, Bool, not, List, ◌++◌, map, Some, None, is_some}
use Rattle.std.specs.BTreeMap.{is_at}
use Rattle.std.specs.Cmp.Lexicographic.{slice_cmp}
use Rattle.std.specs.List.{filter}
use Rattle.std.specs.List.Sorted.{IsStrictlySortedBy}
use Rattle.std.specs.Map.{keys_of, lookup}
use Rattle.std.specs.Ordering.{nat_cmp}
use Rattle.mx_schema.specs.Stored.{StoredTuple}
use Rattle.mx_space.specs.declared.overlay.OverlaidSpace.{OverlaidSpace}
use Rattle.mx_space.specs.declared.tuple_changes.TupleChange.{TupleChange}

-- a tuple is put
abbrev pub put_change : (space : ℕ) → StoredTuple → TupleChange
put_change space entry = record { space = record { 0 = space }; key = entry.0; tuple = Some entry.1 }

-- the tuple of a key is taken out
abbrev pub removal : (space : ℕ) → (key : List ℕ) → TupleChange
removal space key = record { space = record { 0 = space }; key = key; tuple = None }

-- no own tuple stands under a key
abbrev pub is_gone : OverlaidSpace → (key : List ℕ) → Bool
is_gone over key = not (is_some (lookup (is_at (slice_cmp nat_cmp key)) over.own.tuples.entries))

-- the tuples that were put
abbrev pub puts_in : (space : ℕ) → OverlaidSpace → List TupleChange
puts_in space over = map (put_change space) over.own.tuples.entries

-- the keys that were taken out and have no tuple since
abbrev pub removals_in : (space : ℕ) → OverlaidSpace → List TupleChange
removals_in space over = map (removal space) (filter (is_gone over) over.removed.keys)

-- both
abbrev pub changes_in : ℕ × OverlaidSpace → List TupleChange
changes_in entry = puts_in entry.0 entry.1 ++ removals_in entry.0 entry.1

-- own tuples and the keys that were taken out stand in order
pub record AreOrdered (over : OverlaidSpace) : Type 0 where
  pub own : IsStrictlySortedBy (slice_cmp nat_cmp) (keys_of over.own.tuples.entries)
  pub removed : IsStrictlySortedBy (slice_cmp nat_cmp) over.removed.keys
