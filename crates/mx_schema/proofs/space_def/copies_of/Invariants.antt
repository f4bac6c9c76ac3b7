use Rattle.std.proofs.Common.{◌≡◌, length, take}
use Rattle.std.specs.Vec.{vec_capacity}
use Rattle.mx_schema.proofs.space_def.copies_of.Given as goal

abbrev pub invariant-loop-entry : goal.invariant-loop-entry
invariant-loop-entry l = record {
  room : vec_capacity l.copies ≡ length l.entries;
  copied : l.copies.items ≡ take l.entry-index l.entries;
}
