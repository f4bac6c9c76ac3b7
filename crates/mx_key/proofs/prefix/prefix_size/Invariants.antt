use Rattle.std.proofs.Common.{◌≡◌, ◌+◌, ◌≤◌, length, drop}
use Rattle.mx_key.specs.Prefixes.{prefix_size}
use Rattle.mx_key.proofs.prefix.prefix_size.Given as goal

abbrev pub invariant-loop-left : goal.invariant-loop-left
invariant-loop-left l = record {
  size : l.size + prefix_size l.left (drop l.size l.bytes) ≡ prefix_size l.parts l.bytes;
  within : l.size ≤ length l.bytes;
}

abbrev pub decreases-loop-left : goal.decreases-loop-left
decreases-loop-left l = l.left
