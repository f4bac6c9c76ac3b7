use Rattle.std.proofs.Common.{◌≡◌, ◌≤◌, length, ◌+◌, ◌-◌, ◌*◌}
use Rattle.mx_msgpack.specs.Reading.{after_first}
use Rattle.mx_msgpack.proofs.Stack.{counters, after_stack}
use Rattle.mx_msgpack.proofs.size.walk_nested.Given as goal

abbrev pub invariant-loop-depth : goal.invariant-loop-depth
invariant-loop-depth l = record {
  shallow : l.depth ≤ 65;
  whole : length l.left ≡ 65;
  within : length l.rest ≤ length l.bytes;
  same : after_stack (length l.bytes) (65 - l.depth) (counters l.left l.depth) l.rest ≡ after_first (length l.bytes) (64 - l.around) l.bytes;
}

abbrev pub decreases-loop-depth : goal.decreases-loop-depth
decreases-loop-depth l = 2 * length l.rest + l.depth
