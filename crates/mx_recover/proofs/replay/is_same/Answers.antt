use Rattle.mx_recover.proofs.ReplayLaws.{covered}
use Rattle.mx_recover.proofs.replay.is_same.Goals as goal

pub returns-then-covers : goal.returns-then-covers
returns-then-covers c = λ sound sound'.
    covered c.args.clock.now c.args.other.now c.covers-then-covers.result sound sound' (c.covers.ensures.0 c.if-covers.true)
    c.covers-then-covers.ensures.0 c.covers-then-covers.ensures.1
