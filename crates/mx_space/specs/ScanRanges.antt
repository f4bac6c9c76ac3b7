-- Only private functions and proofs need these: the entries that a scan has still to read.
use Rattle.std.specs.Prelude.{List}
use Rattle.mx_space.specs.declared.scan_range.ScanRange.{ScanRange}
use Rattle.mx_space.specs.declared.scan_range.ScanRange.TheVariants.{Tuples, Index}
use Rattle.mx_entries.specs.Entries.{IndexEntry, entries_split}

abbrev pub entries_scanned : ScanRange → List IndexEntry
entries_scanned (Tuples tuples) = tuples
entries_scanned (Index begins) = entries_split begins
