use Rattle.std.proofs.Common.{◌≡◌, length}
use Rattle.mx_msgpack.specs.Items.{values_from}
use Rattle.mx_msgpack.specs.Spelling.{array_head}
use Rattle.mx_key.specs.Parts.{key_of}
use Rattle.mx_key.specs.Places.{after_values}
use Rattle.mx_key.proofs.KeyArrayLaws.{IsArraySoFar}
use Rattle.mx_key.proofs.arrays.key_array_of_tuple.Given as goal

-- the parts so far, and the place up to which the fields were read
abbrev pub invariant-loop-part : goal.invariant-loop-part
invariant-loop-part l =
    IsArraySoFar (key_of l.initial.rest (values_from l.items.count l.items.bytes.now)) (key_of l.rest (values_from l.items.count l.items.bytes.now))
    (array_head (length l.initial.rest)) l.key
    × (l.place.bytes.now ≡ after_values l.place.field l.items.bytes.now)

abbrev pub decreases-loop-part : goal.decreases-loop-part
decreases-loop-part l = length l.rest
