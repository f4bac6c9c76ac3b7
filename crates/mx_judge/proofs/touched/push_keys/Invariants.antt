use Rattle.std.proofs.Common.{◌≡◌, length, take}
use Rattle.mx_key.specs.Comparable.{comparable_of}
use Rattle.mx_key.specs.Keys.{Key, AreFit}
use Rattle.mx_write.proofs.TouchLaws.{AddsBeside}
use Rattle.mx_judge.proofs.touched.push_keys.Given as goal

-- the tuple's keys in the first indexes were added
abbrev pub invariant-loop-def : goal.invariant-loop-def
invariant-loop-def l = record {
  begins : take (length l.initial.keys) l.keys ≡ l.initial.keys;
  added : (key : Key) → AreFit key → l.primary ≡ comparable_of key
      → AddsBeside l.initial.keys l.keys (record { space = l.space.0; key = key; tuple = l.tuple }) (take l.def-index l.def-items);
}
