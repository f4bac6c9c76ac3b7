use Rattle.std.proofs.Common.{drop}
use Rattle.mx_key.specs.Keys.{Key, AreFit}
use Rattle.mx_key.specs.Comparable.{AreParts}
use Rattle.mx_key.proofs.MakingLaws.{IsWritten}
use Rattle.mx_key.proofs.encoding.comparable.Given as goal

abbrev pub invariant-loop-value : goal.invariant-loop-value
invariant-loop-value l = (key : Key) → AreParts l.value-items key → AreFit key → IsWritten (drop l.value-index l.value-items) l.key key
