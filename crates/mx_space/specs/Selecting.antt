-- Only functions beside the claims and proofs need these: what a scan or a lookup collects, and the refusal of a scan.
use Rattle.mx_entries.specs.declared.pick.SelectFault.TheVariants as fault
use Rattle.mx_space.specs.declared.pick.Source.{Source}
use Rattle.mx_space.specs.declared.pick.Source.TheVariants as source
use Rattle.mx_schema.specs.Stored.{StoredTuple}
use Rattle.mx_entries.specs.Windows.{indexed_row}

abbrev pub row_of : Source → StoredTuple → StoredTuple
row_of source.Entries entry = entry
row_of (source.Tuples alloc tuples unique) entry = indexed_row unique tuples.now.entries entry
