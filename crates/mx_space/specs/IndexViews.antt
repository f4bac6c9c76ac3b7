-- Only private functions and proofs need these: the entries of an index in the order of their keys, as they are kept.
use Rattle.std.specs.Prelude.{List}
use Rattle.mx_space.specs.declared.kept_entries.KeptEntries.{KeptEntries}
use Rattle.mx_space.specs.declared.kept_entries.KeptEntries.TheVariants as kept
use Rattle.mx_space.specs.declared.ordered_index.OrderedIndex.{OrderedIndex}
use Rattle.mx_space.specs.declared.ordered_index.OrderedIndex.TheVariants as ordered
use Rattle.mx_entries.specs.Entries.{IndexEntry}

abbrev pub entries_kept : KeptEntries → List IndexEntry
entries_kept (kept.Tree index) = index
entries_kept (kept.Hash index) = index

abbrev pub ordered_index : OrderedIndex → List IndexEntry
ordered_index (ordered.Kept index) = index.now
ordered_index (ordered.Made index) = index
