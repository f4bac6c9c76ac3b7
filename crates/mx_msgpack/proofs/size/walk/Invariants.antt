use Rattle.std.proofs.Common.{◌≤◌, length, ◌*◌}
use Rattle.mx_msgpack.specs.Reading.{after_first}
use Rattle.mx_msgpack.proofs.FlatLaws.{Flat}
use Rattle.mx_msgpack.proofs.size.walk.Given as goal

abbrev pub invariant-loop-left : goal.invariant-loop-left
invariant-loop-left l = record {
  some : 1 ≤ l.opened;
  few : l.opened ≤ 64;
  bound : l.left ≤ 4194304 * l.opened;
  within : length l.rest ≤ length l.bytes;
  same : Flat (length l.bytes) l.left l.opened l.rest (after_first (length l.bytes) 63 l.bytes);
}

abbrev pub decreases-loop-left : goal.decreases-loop-left
decreases-loop-left l = length l.rest
