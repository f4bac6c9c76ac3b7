use Rattle.std.proofs.Common.{◌≡◌, length, map, take}
use Rattle.std.specs.Vec.{vec_capacity}
use Rattle.mx_space.specs.Reserved.{entry_content}
use Rattle.mx_space.proofs.spaces.copies_of.Given as goal

abbrev pub invariant-loop-entry : goal.invariant-loop-entry
invariant-loop-entry l = record {
  room : vec_capacity l.copies ≡ length l.entries;
  many : length l.copies.items ≡ l.entry-index;
  copied : map entry_content l.copies.items ≡ map entry_content (take l.entry-index l.entries);
}
