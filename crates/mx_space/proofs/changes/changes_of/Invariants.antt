use Rattle.std.proofs.Common.{◌≡◌, length}
use Rattle.std.specs.Option.{option_copied}
use Rattle.mx_key.specs.Comparable.{comparable_of}
use Rattle.mx_key.specs.Keys.{Key, AreFit}
use Rattle.mx_space.specs.Changes.{Puts}
use Rattle.mx_space.proofs.SpaceLaws.{IsMade}
use Rattle.mx_space.proofs.changes.changes_of.Given as goal

abbrev pub invariant-loop-def : goal.invariant-loop-def
invariant-loop-def l = (key : Key) → AreFit key → l.primary ≡ comparable_of key → IsMade (Puts key l.tuple (option_copied l.old)) l.defs l.left l.changes.items

abbrev pub decreases-loop-def : goal.decreases-loop-def
decreases-loop-def l = length l.left
