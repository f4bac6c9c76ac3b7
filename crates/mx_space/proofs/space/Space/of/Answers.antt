use Rattle.std.proofs.Common.{refl}
use Rattle.std.specs.FinMap as finite
use Rattle.mx_entries.specs.KeptEntries.{StoresIndex}
use Rattle.mx_space.proofs.SpaceLaws.{new_space, all_made, one_made}
use Rattle.mx_entries.proofs.KeptLaws.{nothing_kept}
use Rattle.mx_space.proofs.space.Space.of.Goals as goal

pub loop-def-preserved : goal.loop-def-preserved
loop-def-preserved c =
    one_made (StoresIndex finite.empty) c.args.schema.indexes c.loop-def.left.now c.in-Some.others.now c.loop-def.indexes.items c.push.new.self.items c.in-Some.def.now c.new.result
    c.in-Some.ensures.cases.0 c.in_ok-push.ensures.items (nothing_kept c.in-Some.def.now c.new.result c.new.ensures) c.loop-def.invariant

pub returns : goal.returns
returns c =
    new_space _ c.args.schema refl c.new-2.ensures.empty
    (all_made (StoresIndex finite.empty) c.args.schema.indexes c.loop-def.left.now c.loop-def.indexes.items c.in_default.ensures.cases c.loop-def.invariant)
