-- What is read of a packet, its header and then its body, is what it asks.
use Rattle.std.proofs.Common.{◌≡◌, ℕ, length, List, [], ◌∷◌, Option, Some, None, Result, Ok, Err, refl, sym, ap, ◌∙◌, nat_eq, arith}
use Rattle.std.specs.Prelude.{is_some}
use Rattle.std.proofs.lemmas.Bool.{ne_eqb}
use Rattle.mx_msgpack.specs.Reading.{head_at, reading_of}
use Rattle.std.specs.Option.{option_map}
use Rattle.mx_base.specs.declared.refusal.Refusal.{Refusal}
use Rattle.mx_base.specs.Keys.{type_key, sync_key, stream_key}
use Rattle.mx_msgpack.specs.Reading.{◌>>=◌}
use Rattle.mx_msgpack.specs.Readers as readers
use Rattle.mx_msgpack.specs.Readers.{unsigned_in}
use Rattle.mx_msgpack.specs.Maps.{Pair, map_at, pairs_in, value_under}
use Rattle.mx_msgpack.proofs.MapLaws.{map_alone, map_whole}
use Rattle.mx_msgpack.proofs.Options.{same_some}
use Rattle.mx_request.specs.declared.request.Head3.{Head3}
use Rattle.mx_request.specs.declared.request.Request.{Request}
use Rattle.mx_request.specs.declared.request_type.RequestType.{RequestType}
use Rattle.mx_request.specs.Requests.{body_request, legal_value, optional, optional_value, or_zero, request_in, request_type_of, stream_in, sync_in}
use Rattle.mx_request.specs.Packets.{PacketAsks, body_in, maps_in, packet_by, packet_in, request_only, whole_map}
use Rattle.mx_request.specs.PacketParts.{asked_by, asked_with, head_by, if_whole, is_body, number_in, request_by}

-- ---- the head, and then the body

abbrev typed : RequestType → (number sync stream : ℕ) → Result (RequestType × Head3) Refusal
typed kind number sync stream = Ok (kind, record { sync = record { 0 = sync }; stream = record { 0 = stream }; kind = number })

abbrev with_head : Head3 → Request → Result (Head3 × Request) Refusal
with_head head request = Ok (head, request)

abbrev asked_then : List Pair → RequestType × Head3 → Result (Head3 × Request) Refusal
asked_then body head = body_request head.0 body >>= with_head head.1

abbrev at_once : List Pair → RequestType → (number sync stream : ℕ) → Result (Head3 × Request) Refusal
at_once body kind number sync stream = asked_then body (kind, record { sync = record { 0 = sync }; stream = record { 0 = stream }; kind = number })

parts : (number : Result ℕ Refusal) (kind : ℕ → Result RequestType Refusal) (sync stream : Result ℕ Refusal) (body : List Pair)
    → (number >>= λ n. kind n >>= λ k. sync >>= λ s. stream >>= at_once body k n s)
    ≡ ((number >>= λ n. kind n >>= λ k. sync >>= λ s. stream >>= typed k n s) >>= asked_then body)
parts (Err refusal) kind sync stream body = refl
parts (Ok n) kind sync stream body = by_kind (kind n)
  where
    by_stream : (k : RequestType) (s : ℕ) (stream : Result ℕ Refusal) → (stream >>= at_once body k n s) ≡ ((stream >>= typed k n s) >>= asked_then body)
    by_stream k s (Ok m) = refl
    by_stream k s (Err refusal) = refl

    by_sync : (k : RequestType) (sync : Result ℕ Refusal) → (sync >>= λ s. stream >>= at_once body k n s) ≡ ((sync >>= λ s. stream >>= typed k n s) >>= asked_then body)
    by_sync k (Ok s) = by_stream k s stream
    by_sync k (Err refusal) = refl

    by_kind : (kind : Result RequestType Refusal)
        → (kind >>= λ k. sync >>= λ s. stream >>= at_once body k n s) ≡ ((kind >>= λ k. sync >>= λ s. stream >>= typed k n s) >>= asked_then body)
    by_kind (Ok k) = by_sync k sync
    by_kind (Err refusal) = refl

legal : (key : ℕ) (value : Option (List ℕ)) → optional_value key 0 unsigned_in value ≡ legal_value key (number_in value)
legal key None = refl
legal key (Some value) = refl

request_is : (header body : List Pair)
    → request_in header body ≡ request_by (number_in (value_under type_key header)) (number_in (value_under sync_key header)) (number_in (value_under stream_key header)) body
unfolding request_in head_by
request_is header body =
    let number = legal type_key (value_under type_key header) in
    let sync = legal sync_key (value_under sync_key header) in
    let stream = legal stream_key (value_under stream_key header) in
    parts (optional_value type_key 0 unsigned_in (value_under type_key header)) (λ n. request_type_of n body)
    (optional_value sync_key 0 unsigned_in (value_under sync_key header)) (optional_value stream_key 0 unsigned_in (value_under stream_key header)) body
    ∙ (λ i. ((number i >>= λ n. request_type_of n body >>= λ k. sync i >>= λ s. stream i >>= typed k n s) >>= asked_then body))

pub request_found : (number sync stream : Option ℕ) (header body : List Pair) → number ≡ number_in (value_under type_key header)
    → sync ≡ number_in (value_under sync_key header) → stream ≡ number_in (value_under stream_key header) → request_in header body ≡ request_by number sync stream body
request_found number sync stream header body n s m = request_is header body ∙ sym (λ i. request_by (n i) (s i) (m i) body)

-- the request without the head
only : (head : Result (RequestType × Head3) Refusal) (body : List Pair)
    → request_only (head >>= asked_then body) ≡ (head >>= λ x. body_request x.0 body)
only (Err refusal) body = refl
only (Ok x) body = by_request (body_request x.0 body)
  where
    by_request : (request : Result Request Refusal) → request_only (request >>= with_head x.1) ≡ request
    by_request (Ok r) = refl
    by_request (Err refusal) = refl

-- ---- a packet

nothing_first : map_at [] ≡ None
unfolding map_at reading_of head_at
nothing_first = refl

-- a body is whole where nothing follows its map
pub body_whole : (body rest : List ℕ) → Some rest ≡ option_map (λ (x : List ℕ × List ℕ). x.1) (map_at body) → nat_eq (length rest) 0 ≡ is_body body
body_whole [] rest e = let none = ap (option_map (λ (x : List ℕ × List ℕ). x.1)) nothing_first in absurd cc
body_whole (byte ∷ bytes) rest e = by_map (map_at (byte ∷ bytes)) e
  where
    by_rest : (map after : List ℕ) → nat_eq (length after) 0 ≡ is_some (whole_map (map, after))
    by_rest map [] = refl
    by_rest map (first ∷ others) = ne_eqb (length (first ∷ others)) 0 (λ e. omega (arith, e))

    by_map : (found : Option (List ℕ × List ℕ)) → Some rest ≡ option_map (λ (x : List ℕ × List ℕ). x.1) found → nat_eq (length rest) 0 ≡ is_some (readers.◌>>=◌ found whole_map)
    by_map None e = absurd cc
    by_map (Some (map, after)) e = ap (λ (l : List ℕ). nat_eq (length l) 0) (same_some rest after e) ∙ by_rest map after

-- a body of which anything is read is all of the bytes
body_is : (bytes body : List ℕ) → body_in bytes ≡ Some body → body ≡ bytes
body_is [] body e = sym (same_some [] body e)
body_is (byte ∷ bytes) body e = by_map (map_at (byte ∷ bytes)) refl e
  where
    by_map : (found : Option (List ℕ × List ℕ)) → map_at (byte ∷ bytes) ≡ found → readers.◌>>=◌ found whole_map ≡ Some body → body ≡ byte ∷ bytes
    by_map None is e = absurd cc
    by_map (Some (map, [])) is e = sym (same_some map body e) ∙ map_whole (byte ∷ bytes) map is
    by_map (Some (map, first ∷ others)) is e = absurd cc

abbrev pub packet_asks : (sync stream : ℕ) → Option (Result Request Refusal) → PacketAsks
packet_asks sync stream asked = record { sync = sync; stream = stream; asked = asked }

abbrev packet_of : (header : List Pair) → Option (Result Request Refusal) → PacketAsks
packet_of header asked = packet_asks (sync_in header) (stream_in header) asked

-- what a packet asks by the map that stands first in it, and by its body
by_body : (packet header rest : List ℕ) → map_at packet ≡ Some (header, rest) → (body : Option (List ℕ)) → body_in rest ≡ body
    → packet_of (pairs_in packet) (if_whole (is_some body) (request_only (request_in (pairs_in packet) (pairs_in rest))))
    ≡ packet_by packet (readers.◌>>=◌ body (λ b. Some (header, b)))
by_body packet header rest m None is = refl
by_body packet header rest m (Some body) is =
    rw (body_is rest body is, map_alone packet header rest m) refl

by_map : (packet : List ℕ) (found : Option (List ℕ × List ℕ)) → map_at packet ≡ found
    → packet_of (pairs_in packet) (asked_with (option_map (λ (x : List ℕ × List ℕ). x.1) found) (λ body. request_only (request_in (pairs_in packet) body)))
    ≡ packet_by packet (readers.◌>>=◌ found (λ header. readers.◌>>=◌ (body_in header.1) (λ b. Some (header.0, b))))
by_map packet None is = refl
by_map packet (Some (header, rest)) is = by_body packet header rest is (body_in rest) refl

packet_is : (packet : List ℕ)
    → packet_of (pairs_in packet) (asked_with (option_map (λ (x : List ℕ × List ℕ). x.1) (map_at packet)) (λ body. request_only (request_in (pairs_in packet) body)))
    ≡ packet_in packet
unfolding maps_in
packet_is packet = by_map packet (map_at packet) refl

-- the same by the values of the header
asked_is : (number sync stream : Option ℕ) (header : List Pair) → number ≡ number_in (value_under type_key header) → sync ≡ number_in (value_under sync_key header)
    → stream ≡ number_in (value_under stream_key header) → (rest : Option (List ℕ))
    → asked_with rest (asked_by number sync stream) ≡ asked_with rest (λ body. request_only (request_in header body))
asked_is number sync stream header n s m None = refl
asked_is number sync stream header n s m (Some body) =
    ap (if_whole (is_body body))
    (sym (ap request_only (request_found number sync stream header (pairs_in body) n s m) ∙ only (head_by number sync stream (pairs_in body)) (pairs_in body)))

packet_shown : (packet : List ℕ) (rest : Option (List ℕ)) (number sync stream : Option ℕ) (asked : Option (Result Request Refusal))
    → rest ≡ option_map (λ (x : List ℕ × List ℕ). x.1) (map_at packet) → number ≡ number_in (value_under type_key (pairs_in packet))
    → sync ≡ number_in (value_under sync_key (pairs_in packet)) → stream ≡ number_in (value_under stream_key (pairs_in packet)) → asked ≡ asked_with rest (asked_by number sync stream)
    → packet_of (pairs_in packet) asked ≡ packet_in packet
packet_shown packet rest number sync stream asked r n s m a =
    ap (packet_of (pairs_in packet))
    (a ∙ asked_is number sync stream (pairs_in packet) n s m rest
    ∙ ap (λ (o : Option (List ℕ)). asked_with o (λ body. request_only (request_in (pairs_in packet) body))) r)
    ∙ packet_is packet

-- the sync or stream by the header's number
pub number_found : (key : ℕ) (told : Option ℕ) (header : List Pair) (number : ℕ) → told ≡ number_in (value_under key header)
    → number ≡ or_zero (legal_value key told) → number ≡ or_zero (optional key 0 unsigned_in header)
number_found key told header number v e = e ∙ ap (λ (o : Option ℕ). or_zero (legal_value key o)) v ∙ ap or_zero (sym (legal key (value_under key header)))

pub packet_seen : (packet : List ℕ) (rest : Option (List ℕ)) (number sync stream : Option ℕ) (asked : Option (Result Request Refusal)) (s m : ℕ)
    → rest ≡ option_map (λ (x : List ℕ × List ℕ). x.1) (map_at packet) → number ≡ number_in (value_under type_key (pairs_in packet))
    → sync ≡ number_in (value_under sync_key (pairs_in packet)) → stream ≡ number_in (value_under stream_key (pairs_in packet)) → asked ≡ asked_with rest (asked_by number sync stream)
    → s ≡ or_zero (legal_value sync_key sync) → m ≡ or_zero (legal_value stream_key stream)
    → packet_asks s m asked ≡ packet_in packet
packet_seen packet rest number sync stream asked s m r n sy st a s_is m_is =
    (λ i. packet_asks (number_found sync_key sync (pairs_in packet) s sy s_is i) (number_found stream_key stream (pairs_in packet) m st m_is i) asked)
    ∙ packet_shown packet rest number sync stream asked r n sy st a
