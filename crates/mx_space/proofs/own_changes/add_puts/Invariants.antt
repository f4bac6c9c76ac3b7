use Rattle.std.proofs.Common.{◌≡◌, ◌++◌, map}
use Rattle.std.specs.Cmp.Lexicographic.{slice_cmp}
use Rattle.std.specs.List.Sorted.{IsStrictlySortedBy}
use Rattle.std.specs.Map.{keys_of}
use Rattle.std.specs.Ordering.{nat_cmp}
use Rattle.mx_space.specs.OwnCommit.{put_change}
use Rattle.mx_space.proofs.own_changes.add_puts.Given as goal

-- what was added and what is to come are the whole together
abbrev pub invariant-loop-key : goal.invariant-loop-key
invariant-loop-key l = record {
  together : l.changes ++ map (put_change l.space.0) l.key-iterator ≡ l.initial.changes ++ map (put_change l.space.0) l.puts.entries;
  ordered : IsStrictlySortedBy (slice_cmp nat_cmp) (keys_of l.puts.entries);
}
