use Rattle.std.proofs.Common.{◌≡◌, length, take}
use Rattle.std.specs.Vec.{vec_capacity}
use Rattle.mx_tracker.proofs.read.Reads.copy.Given as goal

abbrev pub invariant-loop-read : goal.invariant-loop-read
invariant-loop-read l = record {
  room : vec_capacity l.items ≡ length l.reads;
  copied : l.items.items ≡ take l.read-index l.reads;
}
