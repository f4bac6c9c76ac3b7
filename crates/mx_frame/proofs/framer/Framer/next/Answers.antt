use Rattle.std.proofs.Common.{rules}
use Rattle.mx_frame.specs.Packets.{first_frame}
use Rattle.mx_frame.proofs.framer.Framer.next.Goals as goal

pub returns-else-content-size : goal.returns-else-content-size
unfolding first_frame
returns-else-content-size c = (c.split_at-in-Whole.result.1.now, search rules)
