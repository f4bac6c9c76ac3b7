use Rattle.std.proofs.Common.{◌≡◌, take}
use Rattle.mx_key.specs.Comparable.{comparable_of}
use Rattle.mx_key.specs.Keys.{Key, AreFit}
use Rattle.mx_slow.proofs.SlowTouchLaws.{MeetBeside}
use Rattle.mx_slow.proofs.touched.push_keys.Given as goal

-- the keys in the first indexes were added
abbrev pub invariant-loop-def : goal.invariant-loop-def
invariant-loop-def l =
    (primary : Key) → AreFit primary → l.key ≡ comparable_of primary
    → MeetBeside l.initial.out l.out (record { space = l.space.0; key = primary; tuple = l.tuple }) (take l.def-index l.def-items)
