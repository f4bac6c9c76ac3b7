use Rattle.std.proofs.Common.{◌≡◌, length, take}
use Rattle.std.specs.Vec.{vec_capacity}
use Rattle.mx_schema.proofs.index_def.copies_of.Given as goal

abbrev pub invariant-loop-def : goal.invariant-loop-def
invariant-loop-def l = record {
  room : vec_capacity l.copies ≡ length l.defs;
  copied : l.copies.items ≡ take l.def-index l.defs;
}
