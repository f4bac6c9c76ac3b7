-- What a connection is sent for its requests: one packet for each, in order (IPROTO, "Response structure").
use Rattle.std.specs.Prelude.{ℕ, List, [], ◌∷◌, ◌++◌}
use Rattle.mx_reply.specs.declared.body.ReplyBody.TheVariants as body
use Rattle.mx_reply.specs.Replies.{ok_packet, error_packet, id_packet}
use Rattle.mx_model.specs.declared.reply.Reply.{Reply}
use Rattle.mx_serial.specs.Replies.{Told}
use Rattle.mx_model.specs.declared.reply.Reply.TheVariants.{Empty, Tuples, Id, Refused}

-- the packet of a reply to the request of this sync, where the schema has this version
abbrev pub packet_of_reply : (version sync : ℕ) → Reply → List ℕ
packet_of_reply version sync Empty = ok_packet version sync body.Empty
packet_of_reply version sync (Tuples tuples) = ok_packet version sync (body.Tuples tuples)
packet_of_reply version sync Id = id_packet version sync
packet_of_reply version sync (Refused refusal) = error_packet version sync refusal

-- the packet of a reply as it was made
abbrev pub packet_told : (sync : ℕ) → Told → List ℕ
packet_told sync told = packet_of_reply told.version sync told.reply

-- one reply for each of the syncs, for as long as there are both
abbrev pub packets_of_replies : List ℕ → List Told → List ℕ
packets_of_replies [] replies = []
packets_of_replies (sync ∷ syncs) [] = []
packets_of_replies (sync ∷ syncs) (told ∷ others) = packet_told sync told ++ packets_of_replies syncs others
