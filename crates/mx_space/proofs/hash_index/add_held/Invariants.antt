use Rattle.std.proofs.Common.{◌≡◌, ◌++◌, ℕ, List}
use Rattle.std.specs.FinMap.{entries}
use Rattle.mx_hash.specs.Views.{map_of}
use Rattle.mx_space.specs.declared.held_entry.HeldEntry.{HeldEntry}
use Rattle.mx_entries.specs.Entries.{IndexEntry}
use Rattle.mx_space.specs.HashIndexes.{held_entries}
use Rattle.mx_space.proofs.hash_index.add_held.Given as goal

-- those that were added, and those to come
abbrev pub invariant-loop-entry : goal.invariant-loop-entry
invariant-loop-entry l =
    (before : List IndexEntry) → l.initial.ordered ≡ entries (map_of before)
    → (front : List (ℕ × HeldEntry)) × (front ++ l.entry-iterator ≡ l.held.entries) × (l.ordered ≡ entries (map_of (before ++ held_entries front)))
