use Rattle.std.proofs.Common.{length}
use Rattle.mx_formats.proofs.frame.take_packets.Given as goal

abbrev pub decreases-loop-content : goal.decreases-loop-content
decreases-loop-content l = length l.framer.rest
