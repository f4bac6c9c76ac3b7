use Rattle.std.proofs.Common.{◌≡◌, ◌++◌, take}
use Rattle.mx_vclock.proofs.PairLaws.{pairs_text}
use Rattle.mx_vclock.proofs.spelling.write_pairs.Given as goal

abbrev pub invariant-loop-place : goal.invariant-loop-place
invariant-loop-place l = l.out ≡ l.fn.out ++ pairs_text 1 (take l.place l.lsns)
