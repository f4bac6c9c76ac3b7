-- The tuples of a space as a contract sees them, however they are kept.
use Rattle.std.specs.Prelude.{ℕ, List}
use Rattle.mx_schema.specs.Stored.{StoredTuple}

-- tuples by the comparable bytes of their primary keys, in the order of these
pub record TupleEntries : Type 0 where
  pub entries : List StoredTuple

-- a tuple with its key
abbrev pub under_key : (key tuple : List ℕ) → StoredTuple
under_key key tuple = (key, tuple)
