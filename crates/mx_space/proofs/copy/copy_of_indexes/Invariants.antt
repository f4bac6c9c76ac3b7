use Rattle.std.proofs.Common.{◌≡◌, length, take}
use Rattle.std.specs.Vec.{vec_capacity}
use Rattle.mx_space.proofs.copy.copy_of_indexes.Given as goal

abbrev pub invariant-loop-index : goal.invariant-loop-index
invariant-loop-index l = record {
  room : vec_capacity l.copies ≡ length l.indexes;
  copied : l.copies.items ≡ take l.index-index l.indexes;
}
