-- What a packet's bytes are, one map, or two, and nothing else, and what they ask.
use Rattle.std.specs.Prelude.{ℕ, List, [], ◌∷◌, Option, Some, None, Result, Ok, Err}
use Rattle.mx_base.specs.declared.refusal.Refusal.{Refusal}
use Rattle.mx_msgpack.specs.Readers.{◌>>=◌}
use Rattle.mx_msgpack.specs.Maps.{map_at, pairs_in}
use Rattle.mx_request.specs.declared.request.Head3.{Head3}
use Rattle.mx_request.specs.declared.request.Request.{Request}
use Rattle.mx_request.specs.Requests.{request_in, sync_in, stream_in}

-- a map that nothing follows
abbrev pub whole_map : List ℕ × List ℕ → Option (List ℕ)
whole_map (map, []) = Some map
whole_map _ = None

-- a body: no bytes, or one map
abbrev pub body_in : List ℕ → Option (List ℕ)
body_in [] = Some []
body_in (byte ∷ bytes) = map_at (byte ∷ bytes) >>= whole_map

-- the header and the body of a packet, where its bytes are one map, or two, and nothing else
unfoldable pub maps_in : List ℕ → Option (List ℕ × List ℕ)
maps_in packet = do
  header ← map_at packet
  body ← body_in header.1
  Some (header.0, body)

-- What a packet asks: its header's sync and stream, and the request or why it is refused; neither where it isn't one map, or two,
-- and nothing else.
pub record PacketAsks : Type 0 where
  pub sync : ℕ
  pub stream : ℕ
  pub asked : Option (Result Request Refusal)

abbrev pub request_only : Result (Head3 × Request) Refusal → Result Request Refusal
request_only (Ok asked) = Ok asked.1
request_only (Err refusal) = Err refusal

abbrev pub packet_by : (packet : List ℕ) → Option (List ℕ × List ℕ) → PacketAsks
packet_by packet None = record { sync = sync_in (pairs_in packet); stream = stream_in (pairs_in packet); asked = None }
packet_by packet (Some maps) = record {
  sync = sync_in (pairs_in maps.0);
  stream = stream_in (pairs_in maps.0);
  asked = Some (request_only (request_in (pairs_in maps.0) (pairs_in maps.1)));
}

-- what a packet asks
abbrev pub packet_in : List ℕ → PacketAsks
packet_in packet = packet_by packet (maps_in packet)
