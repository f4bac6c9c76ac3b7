use Rattle.std.specs.Option.{option_copied}
use Rattle.mx_space.specs.Reserved.{Edits}
use Rattle.mx_space.proofs.SpaceLaws.{all_made}
use Rattle.mx_space.proofs.changes.edits_of.Goals as goal

pub returns : goal.returns
returns c = λ key fit is.
    all_made (Edits key (option_copied c.args.tuple) (option_copied c.args.old)) c.args.defs.now c.loop-def.left.now c.loop-def.edits.items c.in_default.ensures.cases (c.loop-def.invariant key fit is)
