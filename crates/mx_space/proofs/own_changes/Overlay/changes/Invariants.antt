use Rattle.std.proofs.Common.{◌≡◌, ◌++◌, nat_cmp}
use Rattle.std.specs.List.{AllByRecursion, flat_map}
use Rattle.std.specs.List.Sorted.{IsStrictlySortedBy}
use Rattle.std.specs.Map.{keys_of}
use Rattle.mx_space.specs.OwnCommit.{AreOrdered, changes_in}
use Rattle.mx_space.proofs.OwnCommitLaws.{OwnEntry}
use Rattle.mx_space.proofs.own_changes.Overlay.changes.Given as goal

-- what was added and what is to come are the whole together
abbrev pub invariant-loop-space : goal.invariant-loop-space
invariant-loop-space l = record {
  together : l.changes ++ flat_map changes_in l.space-iterator ≡ flat_map changes_in l.self.spaces.entries;
  ordered : AllByRecursion (λ (entry : OwnEntry). AreOrdered entry.1) l.space-iterator → AllByRecursion (λ (entry : OwnEntry). AreOrdered entry.1) l.self.spaces.entries;
  rises : IsStrictlySortedBy nat_cmp (keys_of l.self.spaces.entries);
}
