use Rattle.std.proofs.Common.{◌≡◌, ◌++◌, List, ℕ}
use Rattle.mx_msgpack.specs.Items.{values_from}
use Rattle.mx_key.specs.Parts.{parts_of_items}
use Rattle.mx_key.proofs.MakingLaws.{IsSoFar, parts_left}
use Rattle.mx_key.proofs.ranges.write_items.Given as goal

abbrev pub invariant-loop-place : goal.invariant-loop-place
invariant-loop-place l =
    (out : List ℕ) × IsSoFar (parts_of_items 0 l.parts (values_from l.items.count l.items.bytes.now)) (parts_left l.parts l.items.count l.place l.rest) out
    × (l.out ≡ l.initial.out ++ out)
