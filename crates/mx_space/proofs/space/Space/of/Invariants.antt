use Rattle.std.proofs.Common.{length}
use Rattle.std.specs.FinMap as finite
use Rattle.mx_entries.specs.KeptEntries.{StoresIndex}
use Rattle.mx_space.proofs.SpaceLaws.{IsMade}
use Rattle.mx_space.proofs.space.Space.of.Given as goal

abbrev pub invariant-loop-def : goal.invariant-loop-def
invariant-loop-def l = IsMade (StoresIndex finite.empty) l.fn.schema.indexes l.left l.indexes.items

abbrev pub decreases-loop-def : goal.decreases-loop-def
decreases-loop-def l = length l.left
