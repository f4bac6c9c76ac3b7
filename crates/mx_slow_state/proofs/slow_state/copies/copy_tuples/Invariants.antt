use Rattle.std.proofs.Common.{◌≡◌, length, take}
use Rattle.std.specs.Vec.{vec_capacity}
use Rattle.mx_slow_state.proofs.slow_state.copies.copy_tuples.Given as goal

abbrev pub invariant-loop-one : goal.invariant-loop-one
invariant-loop-one l = record {
  room : vec_capacity l.copies ≡ length l.tuples;
  copied : l.copies.items ≡ take l.one-index l.tuples;
}
