use Rattle.std.proofs.Common.{◌≡◌, ◌++◌, map}
use Rattle.std.specs.Cmp.Lexicographic.{slice_cmp}
use Rattle.std.specs.List.{filter}
use Rattle.std.specs.List.Sorted.{IsStrictlySortedBy}
use Rattle.std.specs.Ordering.{nat_cmp}
use Rattle.mx_space.specs.OwnCommit.{is_gone, removal, removals_in}
use Rattle.mx_space.proofs.own_changes.add_removals.Given as goal

-- what was added and what is to come are the whole together
abbrev pub invariant-loop-key : goal.invariant-loop-key
invariant-loop-key l = record {
  together : l.changes ++ map (removal l.space.0) (filter (is_gone l.over) l.key-iterator) ≡ l.initial.changes ++ removals_in l.space.0 l.over;
  ordered : IsStrictlySortedBy (slice_cmp nat_cmp) l.over.removed.keys;
}
