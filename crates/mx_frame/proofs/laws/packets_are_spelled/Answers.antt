use Rattle.mx_frame.proofs.SpelledLaws.{packet_spelled, none_spelled, end_spelled}
use Rattle.mx_frame.proofs.laws.packets_are_spelled.Goals as goal

pub returns : goal.returns
returns c = record { packet = packet_spelled; broken = none_spelled; need_more = end_spelled }
