-- Only private functions and proofs need these: what is read of a packet, its header and then its body.
use Rattle.std.specs.Prelude.{ℕ, Bool, true, false, List, Option, Some, None, Result, Ok, Err, is_some}
use Rattle.mx_base.specs.declared.refusal.Refusal.{Refusal}
use Rattle.mx_base.specs.Keys.{type_key, sync_key, stream_key}
use Rattle.mx_msgpack.specs.Reading.{◌>>=◌}
use Rattle.mx_msgpack.specs.Readers.{unsigned_in}
use Rattle.mx_msgpack.specs.Maps.{Pair, pairs_in}
use Rattle.mx_request.specs.declared.request.Head3.{Head3}
use Rattle.mx_request.specs.declared.request.Request as request
use Rattle.mx_request.specs.declared.request_type.RequestType.{RequestType}
use Rattle.mx_request.specs.declared.request_ref.RequestRef.{RequestRef}
use Rattle.mx_request.specs.InPlace.{request_view}
use Rattle.mx_request.specs.Requests.{body_request, legal_value, request_type_of}
use Rattle.mx_request.specs.Packets.{body_in}

-- no bytes, or one map and nothing else
abbrev pub is_body : List ℕ → Bool
is_body bytes = is_some (body_in bytes)

-- what is asked counts where the body is there, and whole
abbrev pub if_whole : Bool → Result request.Request Refusal → Option (Result request.Request Refusal)
if_whole true asked = Some asked
if_whole false asked = None

abbrev pub asked_with : Option (List ℕ) → (List Pair → Result request.Request Refusal) → Option (Result request.Request Refusal)
asked_with None asked = None
asked_with (Some body) asked = if_whole (is_body body) (asked (pairs_in body))

-- the number that a value is, and 0 without one; none where it is no number of 0 or more
abbrev pub number_in : Option (List ℕ) → Option ℕ
number_in None = Some 0
number_in (Some value) = unsigned_in value

-- the type and the head by the header's type, sync and stream, with a body
unfoldable pub head_by : (number sync stream : Option ℕ) → (body : List Pair) → Result (RequestType × Head3) Refusal
head_by number sync stream body = do
  number ← legal_value type_key number
  request_type ← request_type_of number body
  sync ← legal_value sync_key sync
  stream ← legal_value stream_key stream
  Ok (request_type, record { sync = record { 0 = sync }; stream = record { 0 = stream }; kind = number })

-- what is asked by the header's type, sync and stream, with a body, and the same with the head
abbrev pub asked_by : (number sync stream : Option ℕ) → (body : List Pair) → Result request.Request Refusal
asked_by number sync stream body = head_by number sync stream body >>= λ head. body_request head.0 body

abbrev pub request_by : (number sync stream : Option ℕ) → (body : List Pair) → Result (Head3 × request.Request) Refusal
request_by number sync stream body = head_by number sync stream body >>= λ head. body_request head.0 body >>= λ request. Ok (head.1, request)

-- what is read, without where it lies in memory
abbrev pub shown_asked : Result RequestRef Refusal → Result request.Request Refusal
shown_asked (Ok request) = Ok (request_view request)
shown_asked (Err refusal) = Err refusal
