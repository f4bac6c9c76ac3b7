-- A request in place, as the request that it is, and a packet, as what it asks.
use Rattle.std.specs.Prelude.{ℕ, List, Option, Some, None, Result, Ok, Err, replicate}
use Rattle.std.specs.Option.{option_map_or}
use Rattle.mx_vclock.specs.Vclocks.{replicas}
use Rattle.mx_base.specs.declared.refusal.Refusal.{Refusal}
use Rattle.mx_request.specs.declared.packet.PacketRef.{PacketRef}
use Rattle.mx_request.specs.declared.packet.AskedRef.{AskedRef}
use Rattle.mx_request.specs.declared.packet.AskedRef.TheVariants as asked
use Rattle.mx_request.specs.declared.request.Request.{Request}
use Rattle.mx_request.specs.declared.request.Request.TheVariants.{Select, Insert, Replace, Update, Delete, Upsert, Nop, Ping, Begin, Commit, Rollback, Id, Join, Subscribe, Ack}
use Rattle.mx_request.specs.declared.request_ref.RequestRef.{RequestRef}
use Rattle.mx_request.specs.declared.request_ref.RequestRef.TheVariants as in_place
use Rattle.mx_request.specs.Values.{vclock_in}
use Rattle.mx_request.specs.Packets.{PacketAsks}

-- the vclock that a value spells, and without one that of no lsn
abbrev pub vclock_or_none : List ℕ → List ℕ
vclock_or_none value = option_map_or (λ clock. clock) (vclock_in value) (replicate replicas 0)

-- a request without where its arrays and vclocks lie in memory
abbrev pub request_view : RequestRef → Request
request_view (in_place.Select space index limit offset iterator key) = Select space index limit offset iterator key.now
request_view (in_place.Insert space tuple) = Insert space tuple.now
request_view (in_place.Replace space tuple) = Replace space tuple.now
request_view (in_place.Update space index base key operations) = Update space index base key.now operations.now
request_view (in_place.Delete space index key) = Delete space index key.now
request_view (in_place.Upsert space base tuple operations) = Upsert space base tuple.now operations.now
request_view in_place.Nop = Nop
request_view in_place.Ping = Ping
request_view in_place.Begin = Begin
request_view in_place.Commit = Commit
request_view in_place.Rollback = Rollback
request_view in_place.Id = Id
request_view (in_place.Join instance) = Join instance
request_view (in_place.Subscribe instance set clock) = Subscribe instance set (vclock_or_none clock.now)
request_view (in_place.Ack clock) = Ack (vclock_or_none clock.now)

-- the request or the refusal, where there is one
abbrev pub asked_view : AskedRef → Option (Result Request Refusal)
asked_view (asked.Request request) = Some (Ok (request_view request))
asked_view (asked.Refused refusal) = Some (Err refusal)
asked_view asked.NotMessagePack = None

-- a packet without where its parts lie in memory
abbrev pub packet_view : PacketRef → PacketAsks
packet_view packet = record { sync = packet.sync.0; stream = packet.stream.0; asked = asked_view packet.asked }
