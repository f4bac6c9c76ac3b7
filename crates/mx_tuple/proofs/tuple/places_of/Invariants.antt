use Rattle.std.proofs.Common.{◌≡◌, ◌+◌, ◌≤◌, ◌++◌, length}
use Rattle.mx_msgpack.specs.Items.{values_from}
use Rattle.mx_tuple.specs.Fields.{places_from}
use Rattle.mx_tuple.proofs.tuple.places_of.Given as goal

abbrev pub invariant-loop-left : goal.invariant-loop-left
invariant-loop-left l = record {
  within : l.at + length l.rest ≤ l.fn.start + length l.values;
  same : l.places.items ++ places_from l.at (values_from l.left l.rest) ≡ places_from l.fn.start (values_from l.fn.count l.values);
}

abbrev pub decreases-loop-left : goal.decreases-loop-left
decreases-loop-left l = l.left
