-- The tuples of a space under own writes.
use Rattle.std.specs.Prelude.{◌≡◌, ℕ, List, [], ◌∷◌, Option, Some, None}
use Rattle.std.specs.FinMap.{FinMap, entries, get, insert, remove}
use Rattle.mx_key.specs.Comparable.{comparable_of}
use Rattle.mx_key.specs.Keys.{Key, AreFit, key_cmp}
use Rattle.mx_schema.specs.declared.index_def.IndexDef.{IndexDef}
use Rattle.mx_schema.specs.Picks.{tuples_by_index}
use Rattle.mx_schema.specs.State.{Tuples}

-- a transaction's writes in a space: under each primary key that it wrote the tuple that it put, or none where it took the tuple out
abbrev pub OwnWrites : Type 0
OwnWrites = FinMap key_cmp (Option (List ℕ))

-- tuples after one write
abbrev pub with_write : Tuples → Key → Option (List ℕ) → Tuples
with_write all key None = remove all key
with_write all key (Some tuple) = insert all key tuple

abbrev pub with_writes : List (Key × Option (List ℕ)) → Tuples → Tuples
with_writes [] all = all
with_writes (write ∷ others) all = with_write (with_writes others all) write.0 write.1

-- what is seen of tuples under writes
abbrev pub under : OwnWrites → Tuples → Tuples
under written all = with_writes (entries written) all

-- these are the comparable bytes of a key, whose numbers have 64 bits
abbrev pub IsOfKey : List ℕ → Type 0
IsOfKey bytes = (key : Key) × AreFit key × (bytes ≡ comparable_of key)

-- the tuple of this primary key has a key in an index
pub record IsHolder (def : IndexDef) (all : Tuples) (wanted : Key) (bytes : List ℕ) : Type 0 where
  pub own : Key
  pub fit : AreFit own
  pub is : bytes ≡ comparable_of own
  pub holds : get all own ≡ get (tuples_by_index def all) wanted
