use Rattle.std.specs.Option.{option_copied}
use Rattle.mx_space.specs.Changes.{Puts}
use Rattle.mx_space.proofs.SpaceLaws.{all_made}
use Rattle.mx_space.proofs.changes.changes_of.Goals as goal

pub returns : goal.returns
returns c = λ key fit is.
    all_made (Puts key c.args.tuple.now (option_copied c.args.old)) c.args.defs.now c.loop-def.left.now c.loop-def.changes.items c.in_default.ensures.cases (c.loop-def.invariant key fit is)
