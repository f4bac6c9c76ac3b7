-- The state of a database: its spaces, each with its tuples by primary key.
use Rattle.std.specs.Prelude.{ℕ, List, Result, Ok, Err, [], ◌==◌, if◌then◌else◌}
use Rattle.std.specs.FinMap.{FinMap, empty, get, insert, remove}
use Rattle.std.specs.Option.{unwrap_or}
use Rattle.std.specs.Ordering.{nat_cmp}
use Rattle.mx_tuple.specs.Fields.{tuple_of}
use Rattle.mx_key.specs.declared.part.Part.{Part}
use Rattle.mx_key.specs.declared.fault.NoKey.{NoKey}
use Rattle.mx_key.specs.Keys.{Key, key_cmp}
use Rattle.mx_key.specs.Parts.{key_of}

-- a space's tuples, as their bytes
abbrev pub Tuples : Type 0
Tuples = FinMap key_cmp (List ℕ)

abbrev pub State : Type 0
State = FinMap nat_cmp Tuples

-- the tuples of a space; none where nothing was put there
abbrev pub tuples_in : State → (space : ℕ) → Tuples
tuples_in state space = unwrap_or (get state space) empty

-- a space's tuples with one under this key, in the place of the one that is there
abbrev pub with_tuple : State → (space : ℕ) → Key → (tuple : List ℕ) → State
with_tuple state space key tuple = insert state space (insert (tuples_in state space) key tuple)

-- a space's tuples without the one under this key
abbrev pub without_tuple : State → (space : ℕ) → Key → State
without_tuple state space key = insert state space (remove (tuples_in state space) key)

-- the spaces whose rows describe spaces and indexes, and those that show the same rows
abbrev pub space_rows : ℕ
space_rows = 280

abbrev pub shown_space_rows : ℕ
shown_space_rows = 281

abbrev pub index_rows : ℕ
index_rows = 288

abbrev pub shown_index_rows : ℕ
shown_index_rows = 289

-- the space whose tuples a space has: its own, but where it shows those of another
abbrev pub source_of : (space : ℕ) → ℕ
source_of space =
    if space == shown_space_rows then space_rows
    else if space == shown_index_rows then index_rows
    else space

-- the key that a tuple has in an index of these parts; bytes that are no array have no fields
abbrev pub key_in : List Part → List ℕ → Result Key NoKey
key_in parts tuple = key_of parts (tuple_of tuple).fields

-- the empty key where the tuple has none
abbrev pub key_or_none : Result Key NoKey → Key
key_or_none (Ok key) = key
key_or_none (Err why) = []
