use Rattle.std.proofs.Common.{◌≡◌, length}
use Rattle.std.specs.Option.{option_copied}
use Rattle.mx_key.specs.Comparable.{comparable_of}
use Rattle.mx_key.specs.Keys.{Key, AreFit}
use Rattle.mx_space.specs.Reserved.{Edits}
use Rattle.mx_space.proofs.SpaceLaws.{IsMade}
use Rattle.mx_space.proofs.changes.edits_of.Given as goal

abbrev pub invariant-loop-def : goal.invariant-loop-def
invariant-loop-def l = (key : Key) → AreFit key → l.primary ≡ comparable_of key → IsMade (Edits key (option_copied l.tuple) (option_copied l.old)) l.defs l.left l.edits.items

abbrev pub decreases-loop-def : goal.decreases-loop-def
decreases-loop-def l = length l.left
