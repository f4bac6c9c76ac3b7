-- How a request is written: a packet of a header map and, where the body has keys, a body map, keys ascending, each key and
-- number spelled shortest. A key whose value is its default is omitted.
use Rattle.std.specs.Prelude.{◌≡◌, ⊤, ℕ, ◌-◌, ◌^◌, ◌<◌, ◌≤◌, List, [], ◌∷◌, ◌++◌, length, map, slice_index, None, ◌==◌, if◌then◌else◌}
use Rattle.std.specs.List.{concat}
use Rattle.byteorder.specs.Endian.{big_bytes}
use Rattle.uuid.specs.Text.{hyphenated_text, lower}
use Rattle.mx_msgpack.specs.Grammar.{Array, Values, Spells}
use Rattle.mx_msgpack.specs.Spelling.{AreBytes, shortest_unsigned, str_head, map_head}
use Rattle.mx_vclock.specs.Vclocks.{IsVclock}
use Rattle.mx_vclock.specs.Spelling.{clock_map}
use Rattle.mx_base.specs.Keys.{type_key, sync_key, stream_key, space_key, index_key, limit_key, offset_key, iterator_key, base_key, parts_key, tuple_key, instance_key, replica_set_key, clock_key, operations_key}
use Rattle.mx_request.specs.declared.request.Head3.{Head3}
use Rattle.mx_request.specs.declared.request.Request.{Request}
use Rattle.mx_request.specs.declared.request.Request.TheVariants.{Select, Insert, Replace, Update, Delete, Upsert, Nop, Ping, Begin, Commit, Rollback, Id, Join, Subscribe, Ack}
use Rattle.mx_request.specs.Operators.{shape_fault}

-- a key, and the spelling of its value
abbrev pub Written : Type 0
Written = ℕ × List ℕ

-- a number, where it isn't the default
abbrev pub unless_default : (key default number : ℕ) → List Written
unless_default key default number = if number == default then [] else (key, shortest_unsigned number) ∷ []

-- the text of a UUID as a Str
abbrev pub uuid_str : List ℕ → List ℕ
uuid_str id = str_head 36 ++ hyphenated_text lower id

-- the keys of a body, and their values
abbrev pub body_pairs : Request → List Written
body_pairs (Select space index limit offset iterator key) =
    (space_key, shortest_unsigned space.0) ∷ unless_default index_key 0 index.0 ++ unless_default limit_key (2 ^ 32 - 1) limit
    ++ unless_default offset_key 0 offset ++ unless_default iterator_key 0 iterator ++ (parts_key, key) ∷ []
body_pairs (Insert space tuple) = (space_key, shortest_unsigned space.0) ∷ (tuple_key, tuple) ∷ []
body_pairs (Replace space tuple) = (space_key, shortest_unsigned space.0) ∷ (tuple_key, tuple) ∷ []
body_pairs (Update space index base key operations) =
    (space_key, shortest_unsigned space.0) ∷ unless_default index_key 0 index.0 ++ unless_default base_key 0 base ++ (parts_key, key) ∷ (tuple_key, operations) ∷ []
body_pairs (Delete space index key) = (space_key, shortest_unsigned space.0) ∷ unless_default index_key 0 index.0 ++ (parts_key, key) ∷ []
body_pairs (Upsert space base tuple operations) =
    (space_key, shortest_unsigned space.0) ∷ unless_default base_key 0 base ++ (tuple_key, tuple) ∷ (operations_key, operations) ∷ []
body_pairs (Join instance) = (instance_key, uuid_str instance) ∷ []
body_pairs (Subscribe instance set clock) = (instance_key, uuid_str instance) ∷ (replica_set_key, uuid_str set) ∷ (clock_key, clock_map clock) ∷ []
body_pairs (Ack clock) = (clock_key, clock_map clock) ∷ []
body_pairs _ = []

-- the keys of a header, and their values
abbrev pub header_pairs : Head3 → List Written
header_pairs head = (type_key, shortest_unsigned head.kind) ∷ unless_default sync_key 0 head.sync.0 ++ unless_default stream_key 0 head.stream.0

abbrev pub entry_text : Written → List ℕ
entry_text pair = pair.0 ∷ pair.1

-- a map of these pairs
abbrev pub map_text : List Written → List ℕ
map_text pairs = map_head (length pairs) ++ concat (map entry_text pairs)

-- no map where there are no keys
abbrev pub request_body_text : List Written → List ℕ
request_body_text [] = []
request_body_text (pair ∷ pairs) = map_text (pair ∷ pairs)

-- the size of header and body in 32 bits, then both
abbrev pub request_packet : Head3 → Request → List ℕ
request_packet head request =
    let content = map_text (header_pairs head) ++ request_body_text (body_pairs request) in
    (0xce ∷ big_bytes 4 (length content)) ++ content

-- the number of a request's type
abbrev pub type_number : Request → ℕ
type_number (Select space index limit offset iterator key) = 1
type_number (Insert space tuple) = 2
type_number (Replace space tuple) = 3
type_number (Update space index base key operations) = 4
type_number (Delete space index key) = 5
type_number (Upsert space base tuple operations) = 9
type_number Nop = 12
type_number Begin = 14
type_number Commit = 15
type_number Rollback = 16
type_number Ping = 64
type_number (Join instance) = 65
type_number (Subscribe instance set clock) = 66
type_number Id = 73
type_number (Ack clock) = 0

-- an array that stands in a body's map
abbrev pub IsInnerArray : List ℕ → Type 0
IsInnerArray bytes = (values : Values) × Spells 63 (Array values) bytes

-- 16 bytes
abbrev pub IsUuid : List ℕ → Type 0
IsUuid id = (length id ≡ 16) × AreBytes id

-- update operations that stand in a body's map
abbrev pub AreOperations : List ℕ → Type 0
AreOperations bytes = IsInnerArray bytes × (shape_fault bytes ≡ None)

-- the header's numbers fit their types
pub record IsRequestHead (head : Head3) : Type 0 where
  pub sync : head.sync.0 < 2 ^ 64
  pub stream : head.stream.0 < 2 ^ 64

-- The request can be asked: its numbers are in their ranges, its arrays are whole, and its operations have their shape.
abbrev pub IsAskable : Request → Type 0
IsAskable (Select space index limit offset iterator key) =
    (space.0 < 2 ^ 32) × (index.0 < 2 ^ 32) × (limit < 2 ^ 32) × (offset < 2 ^ 32) × (iterator ≤ 6) × IsInnerArray key
IsAskable (Insert space tuple) = (space.0 < 2 ^ 32) × IsInnerArray tuple
IsAskable (Replace space tuple) = (space.0 < 2 ^ 32) × IsInnerArray tuple
IsAskable (Update space index base key operations) =
    (space.0 < 2 ^ 32) × (index.0 < 2 ^ 32) × (base ≤ 1) × IsInnerArray key × AreOperations operations
IsAskable (Delete space index key) = (space.0 < 2 ^ 32) × (index.0 < 2 ^ 32) × IsInnerArray key
IsAskable (Upsert space base tuple operations) = (space.0 < 2 ^ 32) × (base ≤ 1) × IsInnerArray tuple × AreOperations operations
IsAskable (Join instance) = IsUuid instance
IsAskable (Subscribe instance set clock) = IsUuid instance × IsUuid set × IsVclock clock
IsAskable (Ack clock) = IsVclock clock
IsAskable _ = ⊤

-- A vclock that is written has no component of the replica id 0, since that is omitted.
abbrev pub IsShared : Request → Type 0
IsShared (Subscribe instance set clock) = slice_index clock 0 ≡ 0
IsShared (Ack clock) = slice_index clock 0 ≡ 0
IsShared _ = ⊤
