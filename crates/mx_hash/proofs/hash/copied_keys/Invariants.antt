use Rattle.std.proofs.Common.{◌≡◌, ◌≤◌, ◌+◌, ◌++◌, length}
use Rattle.std.specs.HashMap as stored
use Rattle.std.specs.Vec.{vec_capacity}
use Rattle.mx_hash.proofs.hash.copied_keys.Given as goal

abbrev pub invariant-loop-key : goal.invariant-loop-key
invariant-loop-key l =
    record {
      room : length l.keys.items + length l.key-iterator ≤ vec_capacity l.keys;
      told : l.keys.items ++ l.key-iterator ≡ stored.keys l.numbers;
    }
