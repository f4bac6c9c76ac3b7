-- Only private functions and proofs need these: the tuples of a space in the order of their primary keys, as they are kept.
use Rattle.std.specs.Prelude.{List}
use Rattle.mx_schema.specs.Stored.{StoredTuple}
use Rattle.mx_space.specs.declared.kept_tuples.KeptTuples.{KeptTuples}
use Rattle.mx_space.specs.declared.kept_tuples.KeptTuples.TheVariants.{Tree, Hash}
use Rattle.mx_space.specs.declared.ordered_tuples.OrderedTuples.{OrderedTuples}
use Rattle.mx_space.specs.declared.ordered_tuples.OrderedTuples.TheVariants.{Kept, Made}

abbrev pub tuples_kept : KeptTuples → List StoredTuple
tuples_kept (Tree tuples) = tuples.entries
tuples_kept (Hash tuples) = tuples.entries

abbrev pub ordered_entries : OrderedTuples → List StoredTuple
ordered_entries (Kept tuples) = tuples.now.entries
ordered_entries (Made tuples) = tuples.entries
