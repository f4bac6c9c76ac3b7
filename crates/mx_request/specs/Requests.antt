-- What a header and a body of IPROTO ask, or why they are refused: first the type, then each key in ascending order, then the
-- shape of update operations.
use Rattle.std.specs.Prelude.{ℕ, ◌-◌, ◌^◌, List, Option, Some, None, Result, Ok, Err, ◌==◌, if◌then◌else◌}
use Rattle.mx_base.specs.declared.refusal.Refusal.{Refusal}
use Rattle.mx_base.specs.declared.refusal.Refusal.TheVariants.{IllegalValue, MissingKey, Unsupported, UnknownRequestType}
use Rattle.mx_base.specs.declared.kinds.Unsupported.TheVariants.{Authentication}
use Rattle.mx_request.specs.declared.request.Head3.{Head3}
use Rattle.mx_request.specs.declared.request.Request.{Request}
use Rattle.mx_request.specs.declared.request.Request.TheVariants.{Select, Insert, Replace, Update, Delete, Upsert, Nop, Ping, Begin, Commit, Rollback, Id, Join, Subscribe, Ack}
use Rattle.mx_request.specs.declared.request_type.RequestType.{RequestType}
use Rattle.mx_request.specs.declared.request_type.RequestType.TheVariants as type
use Rattle.mx_base.specs.Keys.{type_key, sync_key, stream_key, space_key, index_key, limit_key, offset_key, iterator_key, base_key, parts_key, tuple_key, instance_key, replica_set_key, clock_key, operations_key, isolation_key}
use Rattle.mx_msgpack.specs.Reading.{◌>>=◌}
use Rattle.mx_msgpack.specs.Maps.{Pair, value_under}
use Rattle.mx_request.specs.Values.{number_to, number_32, array_in, uuid_in, vclock_in}
use Rattle.mx_msgpack.specs.Readers.{unsigned_in}
use Rattle.mx_request.specs.Operators.{shape_fault}

-- the value under a key, where it is a legal one
abbrev pub legal_value : {X : Type 0} → ℕ → Option X → Result X Refusal
legal_value key None = Err (IllegalValue key)
legal_value key (Some x) = Ok x

-- the value under a key that has to be there, and that under one that has a default
abbrev pub required_value : {X : Type 0} → ℕ → (List ℕ → Option X) → Option (List ℕ) → Result X Refusal
required_value key read None = Err (MissingKey key)
required_value key read (Some value) = legal_value key (read value)

abbrev pub optional_value : {X : Type 0} → ℕ → X → (List ℕ → Option X) → Option (List ℕ) → Result X Refusal
optional_value key default read None = Ok default
optional_value key default read (Some value) = legal_value key (read value)

abbrev pub required : {X : Type 0} → ℕ → (List ℕ → Option X) → List Pair → Result X Refusal
required key read pairs = required_value key read (value_under key pairs)

abbrev pub optional : {X : Type 0} → ℕ → X → (List ℕ → Option X) → List Pair → Result X Refusal
optional key default read pairs = optional_value key default read (value_under key pairs)

abbrev pub shaped : List ℕ → Option Refusal → Result (List ℕ) Refusal
shaped operations None = Ok operations
shaped operations (Some refusal) = Err refusal

-- the operations, where each has the shape of one
abbrev pub shaped_operations : List ℕ → Result (List ℕ) Refusal
shaped_operations operations = shaped operations (shape_fault operations)

unfoldable pub select_in : List Pair → Result Request Refusal
select_in body = do
  space ← required space_key number_32 body
  index ← optional index_key 0 number_32 body
  limit ← optional limit_key (2 ^ 32 - 1) number_32 body
  offset ← optional offset_key 0 number_32 body
  iterator ← optional iterator_key 0 (number_to 6) body
  key ← required parts_key array_in body
  Ok (Select (record { 0 = space }) (record { 0 = index }) limit offset iterator key)

unfoldable pub insert_in : List Pair → Result Request Refusal
insert_in body = do
  space ← required space_key number_32 body
  tuple ← required tuple_key array_in body
  Ok (Insert (record { 0 = space }) tuple)

unfoldable pub replace_in : List Pair → Result Request Refusal
replace_in body = do
  space ← required space_key number_32 body
  tuple ← required tuple_key array_in body
  Ok (Replace (record { 0 = space }) tuple)

unfoldable pub update_in : List Pair → Result Request Refusal
update_in body = do
  space ← required space_key number_32 body
  index ← optional index_key 0 number_32 body
  base ← optional base_key 0 (number_to 1) body
  key ← required parts_key array_in body
  operations ← required tuple_key array_in body
  operations ← shaped_operations operations
  Ok (Update (record { 0 = space }) (record { 0 = index }) base key operations)

unfoldable pub delete_in : List Pair → Result Request Refusal
delete_in body = do
  space ← required space_key number_32 body
  index ← optional index_key 0 number_32 body
  key ← required parts_key array_in body
  Ok (Delete (record { 0 = space }) (record { 0 = index }) key)

unfoldable pub upsert_in : List Pair → Result Request Refusal
upsert_in body = do
  space ← required space_key number_32 body
  base ← optional base_key 0 (number_to 1) body
  tuple ← required tuple_key array_in body
  operations ← required operations_key array_in body
  operations ← shaped_operations operations
  Ok (Upsert (record { 0 = space }) base tuple operations)

-- the isolation level isn't kept, since there is one
unfoldable pub begin_in : List Pair → Result Request Refusal
begin_in body = do
  level ← optional isolation_key 0 (number_to 4) body
  Ok Begin

unfoldable pub join_in : List Pair → Result Request Refusal
join_in body = do
  instance ← required instance_key uuid_in body
  Ok (Join instance)

unfoldable pub subscribe_in : List Pair → Result Request Refusal
subscribe_in body = do
  instance ← required instance_key uuid_in body
  set ← required replica_set_key uuid_in body
  clock ← required clock_key vclock_in body
  Ok (Subscribe instance set clock)

unfoldable pub ack_in : List Pair → Result Request Refusal
ack_in body = do
  clock ← required clock_key vclock_in body
  Ok (Ack clock)

-- the type of the number 0: an acknowledgement, where the body has a vclock
abbrev pub zero_type : Option (List ℕ) → Result RequestType Refusal
zero_type None = Err (UnknownRequestType 0)
zero_type (Some clock) = Ok type.Ack

-- the type of a number, with a body
unfoldable pub request_type_of : (number : ℕ) → List Pair → Result RequestType Refusal
request_type_of number body =
    if number == 0 then zero_type (value_under clock_key body)
    else if number == 1 then Ok type.Select
    else if number == 2 then Ok type.Insert
    else if number == 3 then Ok type.Replace
    else if number == 4 then Ok type.Update
    else if number == 5 then Ok type.Delete
    else if number == 7 then Err (Unsupported Authentication)
    else if number == 9 then Ok type.Upsert
    else if number == 12 then Ok type.Nop
    else if number == 14 then Ok type.Begin
    else if number == 15 then Ok type.Commit
    else if number == 16 then Ok type.Rollback
    else if number == 64 then Ok type.Ping
    else if number == 65 then Ok type.Join
    else if number == 66 then Ok type.Subscribe
    else if number == 73 then Ok type.Id
    else Err (UnknownRequestType number)

-- what a body asks with this type
abbrev pub body_request : RequestType → List Pair → Result Request Refusal
body_request type.Ack body = ack_in body
body_request type.Select body = select_in body
body_request type.Insert body = insert_in body
body_request type.Replace body = replace_in body
body_request type.Update body = update_in body
body_request type.Delete body = delete_in body
body_request type.Upsert body = upsert_in body
body_request type.Nop body = Ok Nop
body_request type.Begin body = begin_in body
body_request type.Commit body = Ok Commit
body_request type.Rollback body = Ok Rollback
body_request type.Ping body = Ok Ping
body_request type.Join body = join_in body
body_request type.Subscribe body = subscribe_in body
body_request type.Id body = Ok Id

-- the request: the type first, then the keys of the header and of the body
unfoldable pub request_in : (header body : List Pair) → Result (Head3 × Request) Refusal
request_in header body = do
  number ← optional type_key 0 unsigned_in header
  request_type ← request_type_of number body
  sync ← optional sync_key 0 unsigned_in header
  stream ← optional stream_key 0 unsigned_in header
  request ← body_request request_type body
  Ok (record { sync = record { 0 = sync }; stream = record { 0 = stream }; kind = number }, request)

abbrev pub or_zero : Result ℕ Refusal → ℕ
or_zero (Ok number) = number
or_zero (Err refusal) = 0

-- the header's sync and stream where they are there and unsigned, else 0
abbrev pub sync_in : List Pair → ℕ
sync_in header = or_zero (optional sync_key 0 unsigned_in header)

abbrev pub stream_in : List Pair → ℕ
stream_in header = or_zero (optional stream_key 0 unsigned_in header)
