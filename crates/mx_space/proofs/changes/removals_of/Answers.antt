use Rattle.mx_space.specs.Changes.{Removes}
use Rattle.mx_space.proofs.SpaceLaws.{all_made}
use Rattle.mx_space.proofs.changes.removals_of.Goals as goal

pub returns : goal.returns
returns c = λ key fit is.
    all_made (Removes key c.args.tuple.now) c.args.defs.now c.loop-def.left.now c.loop-def.keys.items c.in_default.ensures.cases (c.loop-def.invariant key fit is)
