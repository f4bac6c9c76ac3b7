use Rattle.std.proofs.Common.{◌≡◌, length}
use Rattle.mx_msgpack.specs.Items.{values_from}
use Rattle.mx_key.specs.Parts.{key_of}
use Rattle.mx_key.specs.Places.{after_values}
use Rattle.mx_key.proofs.MakingLaws.{IsSoFar}
use Rattle.mx_key.proofs.keys.key_of_tuple.Given as goal

-- the parts so far, and the place up to which the fields were read
abbrev pub invariant-loop-part : goal.invariant-loop-part
invariant-loop-part l =
    IsSoFar (key_of l.initial.rest (values_from l.items.count l.items.bytes.now)) (key_of l.rest (values_from l.items.count l.items.bytes.now)) l.key
    × (l.place.bytes.now ≡ after_values l.place.field l.items.bytes.now)

abbrev pub decreases-loop-part : goal.decreases-loop-part
decreases-loop-part l = length l.rest
