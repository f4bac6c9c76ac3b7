-- What a change touches, and which keys stand for it.
use Rattle.std.specs.Prelude.{◌≡◌, ℕ, Bool, false, ◌&&◌, List, [], ◌∷◌, ◌++◌, Option, Some, None, ◌==◌, if◌then◌else◌}
use Rattle.std.specs.FinMap.{get}
use Rattle.std.specs.List.{list_any}
use Rattle.mx_msgpack.specs.Readers.{◌>>=◌}
use Rattle.mx_key.specs.Keys.{Key}
use Rattle.mx_key.specs.Ranges.{Range, lies_in}
use Rattle.mx_schema.specs.declared.index_def.IndexDef.{IndexDef}
use Rattle.mx_schema.specs.Catalogues.{index_with, schema_of}
use Rattle.mx_schema.specs.Picks.{entry_key}
use Rattle.mx_schema.specs.State.{State, tuples_in}
use Rattle.mx_tracker.specs.declared.read.Read as noted
use Rattle.mx_tracker.specs.declared.touched.Touched as coded
use Rattle.mx_tracker.specs.Overlaps.{lies_in_read}
use Rattle.mx_write.specs.Change.{Change}
use Rattle.mx_write.specs.Notes.{SpellsRead}
use Rattle.mx_write.specs.Reads.{Read}

-- a tuple that a commit takes away or puts, under its primary key
pub record Touched : Type 0 where
  pub space : ℕ
  pub key : Key
  pub tuple : List ℕ

abbrev pub touched_at : (space : ℕ) → Key → (tuple : Option (List ℕ)) → List Touched
touched_at space key None = []
touched_at space key (Some tuple) = record { space = space; key = key; tuple = tuple } ∷ []

-- the tuple that a change takes away, and the one that it puts
abbrev pub touched_by : State → Change → List Touched
touched_by before change =
    touched_at change.space change.key (get (tuples_in before change.space) change.key) ++ touched_at change.space change.key change.tuple

abbrev pub touched_by_change : State → Option Change → List Touched
touched_by_change before None = []
touched_by_change before (Some change) = touched_by before change

-- the key of a tuple in an index
abbrev pub touched_key : IndexDef → Touched → Key
touched_key def touched = if def.id.0 == 0 then touched.key else entry_key def touched.key touched.tuple

-- the index of a space, as a state describes it
abbrev pub index_by_state : State → (space index : ℕ) → Option IndexDef
index_by_state before space index = schema_of before space >>= (λ schema. index_with index schema.indexes)

abbrev pub lies_in_index : Option IndexDef → Range → Touched → Bool
lies_in_index None range touched = false
lies_in_index (Some def) range touched = lies_in range (touched_key def touched)

-- a tuple's key in the index that was read lies in the range that was read
abbrev pub is_met : State → Read → Touched → Bool
is_met before read touched = (touched.space == read.space) && lies_in_index (index_by_state before read.space read.index) read.range touched

-- one of these tuples is met by one of these reads
abbrev pub are_met : State → List Touched → List Read → Bool
are_met before touched reads = list_any (λ read. list_any (is_met before read) touched) reads

-- these keys stand for what was touched: one of them lies in a read exactly where a touched tuple is met by it
abbrev pub SpellsTouched : State → List Touched → List coded.Touched → Type 0
SpellsTouched before touched keys = (read : Read) (noted : noted.Read) → SpellsRead noted read → list_any (lies_in_read noted) keys ≡ list_any (is_met before read) touched

-- keys that stand for what was touched are added
abbrev pub AddsTouched : State → List Touched → (old new : List coded.Touched) → Type 0
AddsTouched before touched old new = (more : List coded.Touched) × (new ≡ old ++ more) × SpellsTouched before touched more
