use Rattle.mx_frame.proofs.FrameLaws.{packet_stays, none_stays}
use Rattle.mx_frame.proofs.laws.what_is_framed_stays.Goals as goal

pub returns : goal.returns
returns c = record { packet = packet_stays; broken = none_stays }
