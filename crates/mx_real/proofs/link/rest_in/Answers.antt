use Rattle.mx_real.proofs.CountLaws.{one_kept}
use Rattle.mx_real.proofs.link.rest_in.Goals as goal

pub loop-link-preserved : goal.loop-link-preserved
loop-link-preserved g c =
    one_kept _ c.loop-link.links c.loop-link.link-index c.enter.new.self c.link-item.result c.loop-link.invariant c.enter.ensures.faults c.enter.ensures.read_waits c.enter.ensures.write_waits

pub loop-link-2-preserved : goal.loop-link-2-preserved
loop-link-2-preserved g c =
    one_kept _ c.loop-link-2.links c.loop-link-2.link-index c.hear.new.self c.link-item-in-loop-link-2.result c.loop-link-2.invariant c.hear.ensures.faults c.hear.ensures.read_waits c.hear.ensures.write_waits
