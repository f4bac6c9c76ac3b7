use Rattle.mx_request.proofs.PacketLaws.{packet_seen}
use Rattle.mx_request.proofs.packet.read_packet.Goals as goal

pub returns : goal.returns
returns c =
    packet_seen c.args.packet.now _ _ _ _ _ c.numbers_of.result.0.0 c.numbers_of.result.1.0 c.header_at.ensures.rest c.header_at.ensures.number c.header_at.ensures.sync
    c.header_at.ensures.stream c.asked_with.ensures c.numbers_of.ensures.sync c.numbers_of.ensures.stream
