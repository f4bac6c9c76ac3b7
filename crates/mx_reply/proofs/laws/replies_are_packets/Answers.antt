use Rattle.mx_reply.proofs.ReplyLaws.{packet_sized}
use Rattle.mx_reply.proofs.laws.replies_are_packets.Goals as goal

pub returns : goal.returns
returns c = packet_sized
