-- What a new database holds, before anything is written: the rows that describe its spaces and indexes, and its leader.
use Rattle.std.specs.Prelude.{ℕ, pos, true, List, [], ◌∷◌, map, codes}
use Rattle.std.specs.FinMap.{empty}
use Rattle.mx_msgpack.specs.Grammar.{Value, Boolean, Int, Str, Array, Map, Values, NoValue, MoreValues, NoPair, MorePairs}
use Rattle.mx_msgpack.specs.Spelling.{shortest}
use Rattle.mx_key.specs.declared.part.Part.{Part}
use Rattle.mx_key.specs.declared.part.PartKind.TheVariants.{Unsigned, String}
use Rattle.mx_schema.specs.State.{State, key_in, key_or_none, space_rows, shown_space_rows, index_rows, shown_index_rows, with_tuple}

-- values in a row
abbrev pub values_of : List Value → Values
values_of [] = NoValue
values_of (value ∷ others) = MoreValues value (values_of others)

abbrev pub array_with : List Value → Value
array_with values = Array (values_of values)

abbrev pub number : ℕ → Value
number n = Int (pos n)

-- a space: its number, owner, name, engine, number of fields, flags and format
abbrev pub space_row : (id : ℕ) (name : List ℕ) → Value
space_row id name =
    array_with (number id ∷ number 1 ∷ Str name ∷ Str (codes "memtx") ∷ number 0 ∷ Map NoPair ∷ array_with [] ∷ [])

-- a part of an index: a field's number, and a type
abbrev pub unsigned_part : (field : ℕ) → Value
unsigned_part field = array_with (number field ∷ Str (codes "unsigned") ∷ [])

abbrev pub text_part : (field : ℕ) → Value
text_part field = array_with (number field ∷ Str (codes "string") ∷ [])

-- an index: its space, number, name, type, options and parts
abbrev pub index_row : (space id : ℕ) (name : List ℕ) (parts : List Value) → Value
index_row space id name parts =
    array_with (number space ∷ number id ∷ Str name ∷ Str (codes "tree")
    ∷ Map (MorePairs (Str (codes "unique")) (Boolean true) NoPair) ∷ array_with parts ∷ [])

-- the space of settings, that of the nodes of the replica set, and the one that a new database has for its users
abbrev pub settings : ℕ
settings = 272

abbrev pub cluster : ℕ
cluster = 320

abbrev pub test_space : ℕ
test_space = 512

abbrev pub first_spaces : List Value
first_spaces =
    space_row settings (codes "_schema")
    ∷ space_row space_rows (codes "_space")
    ∷ space_row shown_space_rows (codes "_vspace")
    ∷ space_row index_rows (codes "_index")
    ∷ space_row shown_index_rows (codes "_vindex")
    ∷ space_row cluster (codes "_cluster")
    ∷ space_row test_space (codes "test")
    ∷ []

abbrev pub first_indexes : List Value
first_indexes =
    index_row settings 0 (codes "primary") (text_part 0 ∷ [])
    ∷ index_row space_rows 0 (codes "primary") (unsigned_part 0 ∷ [])
    ∷ index_row space_rows 2 (codes "name") (text_part 2 ∷ [])
    ∷ index_row shown_space_rows 0 (codes "primary") (unsigned_part 0 ∷ [])
    ∷ index_row shown_space_rows 2 (codes "name") (text_part 2 ∷ [])
    ∷ index_row index_rows 0 (codes "primary") (unsigned_part 0 ∷ unsigned_part 1 ∷ [])
    ∷ index_row index_rows 2 (codes "name") (unsigned_part 0 ∷ text_part 2 ∷ [])
    ∷ index_row shown_index_rows 0 (codes "primary") (unsigned_part 0 ∷ unsigned_part 1 ∷ [])
    ∷ index_row shown_index_rows 2 (codes "name") (unsigned_part 0 ∷ text_part 2 ∷ [])
    ∷ index_row cluster 0 (codes "primary") (unsigned_part 0 ∷ [])
    ∷ index_row cluster 1 (codes "uuid") (text_part 1 ∷ [])
    ∷ index_row test_space 0 (codes "primary") (unsigned_part 0 ∷ [])
    ∷ []

-- the key of the setting that says which node may be written, and its first row
abbrev pub leader : List ℕ
leader = codes "leader"

abbrev pub first_settings : List Value
first_settings = array_with (Str leader ∷ number 1 ∷ []) ∷ []

-- rows as their bytes, each value spelled shortest
abbrev pub rows_of : List Value → List (List ℕ)
rows_of rows = map shortest rows

abbrev pub part_of_numbers : (field : ℕ) → Part
part_of_numbers field = record { field = field; kind = Unsigned }

abbrev pub part_of_texts : (field : ℕ) → Part
part_of_texts field = record { field = field; kind = String }

-- the state with these rows of a space put into it one after the other, under their keys in an index of these parts
abbrev pub with_rows : (space : ℕ) → List Part → State → List (List ℕ) → State
with_rows space parts state [] = state
with_rows space parts state (row ∷ rows) = with_rows space parts (with_tuple state space (key_or_none (key_in parts row)) row) rows

-- what a new database holds
unfoldable pub first_state : State
first_state =
    with_rows index_rows (part_of_numbers 0 ∷ part_of_numbers 1 ∷ [])
    (with_rows space_rows (part_of_numbers 0 ∷ [])
    (with_rows settings (part_of_texts 0 ∷ []) empty (rows_of first_settings))
    (rows_of first_spaces))
    (rows_of first_indexes)
