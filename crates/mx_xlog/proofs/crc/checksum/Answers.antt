use Rattle.mx_xlog.proofs.TableLaws.{folded_front}
use Rattle.mx_xlog.proofs.crc.checksum.Goals as goal

pub loop-eight-preserved : goal.loop-eight-preserved
loop-eight-preserved c =
    folded_front c.loop-eight.rest.now c.in-Some.eight.now c.in-Some.others.now c.loop-eight.register c.after_eight-register.result _
    c.in-Some.ensures.cases.0 c.in-Some.ensures.cases.1 c.after_eight-register.ensures c.loop-eight.invariant
