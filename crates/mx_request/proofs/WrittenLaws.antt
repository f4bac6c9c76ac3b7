-- A request that is written is read again.
use Rattle.std.proofs.Common.{◌≡◌, ℕ, ◌-◌, ◌^◌, ◌<◌, ◌≤◌, List, Some, Ok, refl, ap, ◌∙◌, arith}
use Rattle.std.specs.Prelude.{map}
use Rattle.mx_base.specs.declared.ids.SpaceId.{SpaceId}
use Rattle.mx_base.specs.declared.ids.IndexId.{IndexId}
use Rattle.mx_msgpack.specs.Spelling.{shortest_unsigned}
use Rattle.mx_request.specs.declared.request.Head3.{Head3}
use Rattle.mx_request.specs.declared.request.Request.{Request}
use Rattle.mx_request.specs.declared.request.Request.TheVariants.{Select, Insert, Replace, Update, Delete, Upsert, Nop, Ping, Begin, Commit, Rollback, Id, Join, Subscribe, Ack}
use Rattle.mx_msgpack.specs.Maps.{Pair, pairs_in}
use Rattle.mx_request.specs.Values.{number_to, number_32, array_in}
use Rattle.mx_msgpack.specs.Readers.{unsigned_in}
use Rattle.mx_request.specs.Requests.{required, optional, shaped_operations, shaped, select_in, insert_in, replace_in, update_in, delete_in, upsert_in, begin_in, join_in, subscribe_in, ack_in, request_type_of, body_request, request_in}
use Rattle.mx_request.specs.declared.request_type.RequestType.{RequestType}
use Rattle.mx_request.specs.declared.request_type.RequestType.TheVariants as type
use Rattle.mx_request.specs.Spelling.{Written, unless_default, body_pairs, header_pairs, map_text, request_body_text, type_number, IsInnerArray, AreOperations, IsRequestHead, IsAskable, IsShared}
use Rattle.mx_request.proofs.MapTextLaws.{as_read, map_again, body_again}
use Rattle.mx_request.proofs.ValueTextLaws.{unsigned_read_again, number_read_again, array_read_again, uuid_read_again}
use Rattle.mx_request.proofs.ClockTextLaws.{clock_read_again}
use Rattle.mx_request.proofs.UnderKeyLaws.{found, OnlyKey, only_key, optional_again, required_again, space_found, index_found, limit_found, offset_found, iterator_found, key_found, change_space, change_index, change_base, change_key, change_operations, removal_space, removal_index, removal_key, upsertion_space, upsertion_base, upsertion_tuple, upsertion_operations, header_kind, header_sync, header_stream}
use Rattle.mx_request.proofs.WholeLaws.{body_few, body_whole, header_few, header_whole}

-- the body is of this request's type, and asks it
record Reads (request : Request) (body : List Pair) : Type 0 where
  kind : RequestType
  told : request_type_of (type_number request) body ≡ Ok kind
  asked : body_request kind body ≡ Ok request

-- numbers of at most 32 bits
required_32 : (key number : ℕ) (pairs : List Written) → found key pairs ≡ Some (shortest_unsigned number) → number < 2 ^ 32
    → required key number_32 (map as_read pairs) ≡ Ok number
required_32 key number pairs e fits =
    required_again key number_32 pairs (shortest_unsigned number) number e (number_read_again (2 ^ 32 - 1) number (omega arith) (omega arith))

optional_to : (most key default number : ℕ) (pairs : List Written) → found key pairs ≡ found key (unless_default key default number) → most < 2 ^ 64 → number ≤ most
    → optional key default (number_to most) (map as_read pairs) ≡ Ok number
optional_to most key default number pairs e fits within =
    optional_again key default number (number_to most) pairs e (number_read_again most number within (omega arith))

required_array : (key : ℕ) (array : List ℕ) (pairs : List Written) → found key pairs ≡ Some array → IsInnerArray array → required key array_in (map as_read pairs) ≡ Ok array
required_array key array pairs e inner = required_again key array_in pairs array array e (array_read_again array inner)

operations_again : (operations : List ℕ) → AreOperations operations → shaped_operations operations ≡ Ok operations
operations_again operations (inner, shape) = ap (shaped operations) shape

-- ---- a body with these values under its keys

select_from : (body : List Pair) (space index limit offset iterator : ℕ) (key : List ℕ) → required 0x10 number_32 body ≡ Ok space
    → optional 0x11 0 number_32 body ≡ Ok index → optional 0x12 (2 ^ 32 - 1) number_32 body ≡ Ok limit → optional 0x13 0 number_32 body ≡ Ok offset
    → optional 0x14 0 (number_to 6) body ≡ Ok iterator → required 0x20 array_in body ≡ Ok key
    → select_in body ≡ Ok (Select (record { 0 = space }) (record { 0 = index }) limit offset iterator key)
unfolding select_in
select_from body space index limit offset iterator key s i l o t k = rw (s, i, l, o, t, k) refl

insert_from : (body : List Pair) (space : ℕ) (tuple : List ℕ) → required 0x10 number_32 body ≡ Ok space → required 0x21 array_in body ≡ Ok tuple
    → insert_in body ≡ Ok (Insert (record { 0 = space }) tuple)
unfolding insert_in
insert_from body space tuple s t = rw (s, t) refl

replace_from : (body : List Pair) (space : ℕ) (tuple : List ℕ) → required 0x10 number_32 body ≡ Ok space → required 0x21 array_in body ≡ Ok tuple
    → replace_in body ≡ Ok (Replace (record { 0 = space }) tuple)
unfolding replace_in
replace_from body space tuple s t = rw (s, t) refl

update_from : (body : List Pair) (space index base : ℕ) (key operations : List ℕ) → required 0x10 number_32 body ≡ Ok space
    → optional 0x11 0 number_32 body ≡ Ok index → optional 0x15 0 (number_to 1) body ≡ Ok base → required 0x20 array_in body ≡ Ok key
    → required 0x21 array_in body ≡ Ok operations → shaped_operations operations ≡ Ok operations
    → update_in body ≡ Ok (Update (record { 0 = space }) (record { 0 = index }) base key operations)
unfolding update_in
update_from body space index base key operations s i b k o shape = rw (s, i, b, k, o, shape) refl

delete_from : (body : List Pair) (space index : ℕ) (key : List ℕ) → required 0x10 number_32 body ≡ Ok space
    → optional 0x11 0 number_32 body ≡ Ok index → required 0x20 array_in body ≡ Ok key
    → delete_in body ≡ Ok (Delete (record { 0 = space }) (record { 0 = index }) key)
unfolding delete_in
delete_from body space index key s i k = rw (s, i, k) refl

upsert_from : (body : List Pair) (space base : ℕ) (tuple operations : List ℕ) → required 0x10 number_32 body ≡ Ok space
    → optional 0x15 0 (number_to 1) body ≡ Ok base → required 0x21 array_in body ≡ Ok tuple → required 0x28 array_in body ≡ Ok operations
    → shaped_operations operations ≡ Ok operations → upsert_in body ≡ Ok (Upsert (record { 0 = space }) base tuple operations)
unfolding upsert_in
upsert_from body space base tuple operations s b t o shape = rw (s, b, t, o, shape) refl

-- ---- the bodies as they are written

-- the body of a request, as it is read
abbrev body_read : Request → List Pair
body_read request = map as_read (body_pairs request)

select_reads : (space : SpaceId) (index : IndexId) (limit offset iterator : ℕ) (key : List ℕ)
    → IsAskable (Select space index limit offset iterator key) → Reads (Select space index limit offset iterator key) (body_read (Select space index limit offset iterator key))
unfolding request_type_of
select_reads space index limit offset iterator key (s, i, l, o, t, k) =
    let pairs = body_pairs (Select space index limit offset iterator key) in
    let a = unless_default 0x11 0 index.0 in
    let b = unless_default 0x12 (2 ^ 32 - 1) limit in
    let c = unless_default 0x13 0 offset in
    let d = unless_default 0x14 0 iterator in
    let ka = only_key 0x11 0 index.0 in
    let kb = only_key 0x12 (2 ^ 32 - 1) limit in
    let kc = only_key 0x13 0 offset in
    let kd = only_key 0x14 0 iterator in
    let first = shortest_unsigned space.0 in
    record {
      kind = type.Select;
      told = refl;
      asked =
          select_from (map as_read pairs) space.0 index.0 limit offset iterator key
          (required_32 0x10 space.0 pairs (space_found first key a b c d ka kb kc kd) s)
          (optional_to (2 ^ 32 - 1) 0x11 0 index.0 pairs (index_found first key a b c d ka kb kc kd) (omega arith) (omega arith))
          (optional_to (2 ^ 32 - 1) 0x12 (2 ^ 32 - 1) limit pairs (limit_found first key a b c d ka kb kc kd) (omega arith) (omega arith))
          (optional_to (2 ^ 32 - 1) 0x13 0 offset pairs (offset_found first key a b c d ka kb kc kd) (omega arith) (omega arith))
          (optional_to 6 0x14 0 iterator pairs (iterator_found first key a b c d ka kb kc kd) (omega arith) t)
          (required_array 0x20 key pairs (key_found first key a b c d ka kb kc kd) k);
    }

update_reads : (space : SpaceId) (index : IndexId) (base : ℕ) (key operations : List ℕ)
    → IsAskable (Update space index base key operations) → Reads (Update space index base key operations) (body_read (Update space index base key operations))
unfolding request_type_of
update_reads space index base key operations (s, i, o, k, each) =
    let pairs = body_pairs (Update space index base key operations) in
    let a = unless_default 0x11 0 index.0 in
    let b = unless_default 0x15 0 base in
    let ka = only_key 0x11 0 index.0 in
    let kb = only_key 0x15 0 base in
    let first = shortest_unsigned space.0 in
    record {
      kind = type.Update;
      told = refl;
      asked =
          update_from (map as_read pairs) space.0 index.0 base key operations
          (required_32 0x10 space.0 pairs (change_space first key operations a b ka kb) s)
          (optional_to (2 ^ 32 - 1) 0x11 0 index.0 pairs (change_index first key operations a b ka kb) (omega arith) (omega arith))
          (optional_to 1 0x15 0 base pairs (change_base first key operations a b ka kb) (omega arith) o)
          (required_array 0x20 key pairs (change_key first key operations a b ka kb) k)
          (required_array 0x21 operations pairs (change_operations first key operations a b ka kb) each.0)
          (operations_again operations each);
    }

delete_reads : (space : SpaceId) (index : IndexId) (key : List ℕ) → IsAskable (Delete space index key) → Reads (Delete space index key) (body_read (Delete space index key))
unfolding request_type_of
delete_reads space index key (s, i, k) =
    let pairs = body_pairs (Delete space index key) in
    let a = unless_default 0x11 0 index.0 in
    let ka = only_key 0x11 0 index.0 in
    let first = shortest_unsigned space.0 in
    record {
      kind = type.Delete;
      told = refl;
      asked =
          delete_from (map as_read pairs) space.0 index.0 key
          (required_32 0x10 space.0 pairs (removal_space first key a ka) s)
          (optional_to (2 ^ 32 - 1) 0x11 0 index.0 pairs (removal_index first key a ka) (omega arith) (omega arith))
          (required_array 0x20 key pairs (removal_key first key a ka) k);
    }

upsert_reads : (space : SpaceId) (base : ℕ) (tuple operations : List ℕ)
    → IsAskable (Upsert space base tuple operations) → Reads (Upsert space base tuple operations) (body_read (Upsert space base tuple operations))
unfolding request_type_of
upsert_reads space base tuple operations (s, o, t, each) =
    let pairs = body_pairs (Upsert space base tuple operations) in
    let b = unless_default 0x15 0 base in
    let kb = only_key 0x15 0 base in
    let first = shortest_unsigned space.0 in
    record {
      kind = type.Upsert;
      told = refl;
      asked =
          upsert_from (map as_read pairs) space.0 base tuple operations
          (required_32 0x10 space.0 pairs (upsertion_space first tuple operations b kb) s)
          (optional_to 1 0x15 0 base pairs (upsertion_base first tuple operations b kb) (omega arith) o)
          (required_array 0x21 tuple pairs (upsertion_tuple first tuple operations b kb) t)
          (required_array 0x28 operations pairs (upsertion_operations first tuple operations b kb) each.0)
          (operations_again operations each);
    }

request_reads : (request : Request) → IsAskable request → IsShared request → Reads request (body_read request)
unfolding request_type_of begin_in join_in subscribe_in ack_in
request_reads (Select space index limit offset iterator key) ask shared = select_reads space index limit offset iterator key ask
request_reads (Insert space tuple) (s, t) shared =
    let pairs = body_pairs (Insert space tuple) in
    record {
      kind = type.Insert;
      told = refl;
      asked = insert_from (map as_read pairs) space.0 tuple (required_32 0x10 space.0 pairs refl s) (required_array 0x21 tuple pairs refl t);
    }
request_reads (Replace space tuple) (s, t) shared =
    let pairs = body_pairs (Replace space tuple) in
    record {
      kind = type.Replace;
      told = refl;
      asked = replace_from (map as_read pairs) space.0 tuple (required_32 0x10 space.0 pairs refl s) (required_array 0x21 tuple pairs refl t);
    }
request_reads (Update space index base key operations) ask shared = update_reads space index base key operations ask
request_reads (Delete space index key) ask shared = delete_reads space index key ask
request_reads (Upsert space base tuple operations) ask shared = upsert_reads space base tuple operations ask
request_reads Nop ask shared = record { kind = type.Nop; told = refl; asked = refl }
request_reads Ping ask shared = record { kind = type.Ping; told = refl; asked = refl }
request_reads Begin ask shared = record { kind = type.Begin; told = refl; asked = refl }
request_reads Commit ask shared = record { kind = type.Commit; told = refl; asked = refl }
request_reads Rollback ask shared = record { kind = type.Rollback; told = refl; asked = refl }
request_reads Id ask shared = record { kind = type.Id; told = refl; asked = refl }
request_reads (Join instance) ask shared = record { kind = type.Join; told = refl; asked = rw (uuid_read_again instance ask) refl }
request_reads (Subscribe instance set clock) (i, s, c) shared =
    record { kind = type.Subscribe; told = refl; asked = rw (uuid_read_again instance i, uuid_read_again set s, clock_read_again clock c shared) refl }
request_reads (Ack clock) ask shared = record { kind = type.Ack; told = refl; asked = rw (clock_read_again clock ask shared) refl }

-- ---- the law

kind_low : (request : Request) → type_number request < 0x80
kind_low (Select space index limit offset iterator key) = omega arith
kind_low (Insert space tuple) = omega arith
kind_low (Replace space tuple) = omega arith
kind_low (Update space index base key operations) = omega arith
kind_low (Delete space index key) = omega arith
kind_low (Upsert space base tuple operations) = omega arith
kind_low Nop = omega arith
kind_low Ping = omega arith
kind_low Begin = omega arith
kind_low Commit = omega arith
kind_low Rollback = omega arith
kind_low Id = omega arith
kind_low (Join instance) = omega arith
kind_low (Subscribe instance set clock) = omega arith
kind_low (Ack clock) = omega arith

asked_from : (header body : List Pair) (head : Head3) (request : Request) → optional 0x00 0 unsigned_in header ≡ Ok head.kind
    → optional 0x01 0 unsigned_in header ≡ Ok head.sync.0 → optional 0x0a 0 unsigned_in header ≡ Ok head.stream.0
    → head.kind ≡ type_number request → Reads request body → request_in header body ≡ Ok (head, request)
unfolding request_in
asked_from header body head request kind sync stream same r =
    let told : request_type_of head.kind body ≡ Ok r.kind = ap (λ (n : ℕ). request_type_of n body) same ∙ r.told in
    rw (kind, told, sync, stream, r.asked) refl

-- the header's three numbers
module _ (head : Head3) (h : IsRequestHead head) where
  abbrev sync_pairs : List Written
  sync_pairs = unless_default 0x01 0 head.sync.0

  abbrev stream_pairs : List Written
  stream_pairs = unless_default 0x0a 0 head.stream.0

  only_sync : OnlyKey 0x01 sync_pairs
  only_sync = only_key 0x01 0 head.sync.0

  only_stream : OnlyKey 0x0a stream_pairs
  only_stream = only_key 0x0a 0 head.stream.0

  kind_again : head.kind < 0x80 → optional 0x00 0 unsigned_in (map as_read (header_pairs head)) ≡ Ok head.kind
  kind_again low =
      let kind = shortest_unsigned head.kind in
      rw (header_kind kind sync_pairs stream_pairs only_sync only_stream, unsigned_read_again head.kind (omega arith)) refl

  sync_again : optional 0x01 0 unsigned_in (map as_read (header_pairs head)) ≡ Ok head.sync.0
  sync_again =
      let kind = shortest_unsigned head.kind in
      optional_again 0x01 0 head.sync.0 unsigned_in (header_pairs head) (header_sync kind sync_pairs stream_pairs only_sync only_stream) (unsigned_read_again head.sync.0 h.sync)

  stream_again : optional 0x0a 0 unsigned_in (map as_read (header_pairs head)) ≡ Ok head.stream.0
  stream_again =
      let kind = shortest_unsigned head.kind in
      optional_again 0x0a 0 head.stream.0 unsigned_in (header_pairs head) (header_stream kind sync_pairs stream_pairs only_sync only_stream) (unsigned_read_again head.stream.0 h.stream)

pub asked_again : (head : Head3) (request : Request) → IsRequestHead head → IsAskable request → IsShared request → head.kind ≡ type_number request
    → request_in (pairs_in (map_text (header_pairs head))) (pairs_in (request_body_text (body_pairs request))) ≡ Ok (head, request)
asked_again head request h askable shared same =
    let low : head.kind < 0x80 = omega (arith, kind_low request) in
    let header = map_again (header_pairs head) (header_whole head h low) (header_few head) in
    let body = body_again (body_pairs request) (body_whole request askable shared) (body_few request) in
    rw (header, body)
    (asked_from (map as_read (header_pairs head)) (body_read request) head request (kind_again head h low) (sync_again head h) (stream_again head h) same
    (request_reads request askable shared))
