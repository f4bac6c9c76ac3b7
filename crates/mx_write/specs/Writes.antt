-- Writes: the requests that change the tuples of one space.
use Rattle.std.specs.Prelude.{⊤, ℕ, ◌≤◌, List, Option, Some, None}
use Rattle.mx_msgpack.specs.Spelling.{AreBytes}
use Rattle.mx_request.specs.declared.request.Request.{Request}
use Rattle.mx_request.specs.declared.request.Request.TheVariants as request
use Rattle.mx_request.specs.Spelling.{AreOperations, IsInnerArray}

-- what a write does in its space; keys, tuples and operations are arrays of MessagePack, and `base` is the number of a first field
pub data Write : Type 0 where
  Insert : (tuple : List ℕ) → Write
  Replace : (tuple : List ℕ) → Write
  Update : (index base : ℕ) (key operations : List ℕ) → Write
  Delete : (index : ℕ) (key : List ℕ) → Write
  Upsert : (base : ℕ) (tuple operations : List ℕ) → Write

-- the write that a request is, if it is one, and its space
abbrev pub write_in : Request → Option (ℕ × Write)
write_in (request.Insert space tuple) = Some (space.0, Insert tuple)
write_in (request.Replace space tuple) = Some (space.0, Replace tuple)
write_in (request.Update space index base key operations) = Some (space.0, Update index.0 base key operations)
write_in (request.Delete space index key) = Some (space.0, Delete index.0 key)
write_in (request.Upsert space base tuple operations) = Some (space.0, Upsert base tuple operations)
write_in _ = None

-- a write that a request may be: its arrays are whole values that may stand inside a body, and its operations have their shape
abbrev pub IsWellFormed : Write → Type 0
IsWellFormed (Insert tuple) = IsInnerArray tuple
IsWellFormed (Replace tuple) = IsInnerArray tuple
IsWellFormed (Update index base key operations) = (base ≤ 1) × IsInnerArray key × AreOperations operations
IsWellFormed (Delete index key) = IsInnerArray key
IsWellFormed (Upsert base tuple operations) = (base ≤ 1) × IsInnerArray tuple × AreOperations operations

-- its tuple is bytes, which numbers in a list needn't be
abbrev pub HasBytes : Write → Type 0
HasBytes (Insert tuple) = AreBytes tuple
HasBytes (Replace tuple) = AreBytes tuple
HasBytes (Update index base key operations) = ⊤
HasBytes (Delete index key) = ⊤
HasBytes (Upsert base tuple operations) = AreBytes tuple

abbrev pub TupleIsBytes : Option (ℕ × Write) → Type 0
TupleIsBytes None = ⊤
TupleIsBytes (Some (space, write)) = HasBytes write
