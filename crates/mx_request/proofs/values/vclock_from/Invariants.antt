use Rattle.std.proofs.Common.{◌≡◌, replicate}
use Rattle.mx_vclock.specs.Vclocks.{replicas}
use Rattle.mx_msgpack.specs.Maps.{pairs_from}
use Rattle.mx_request.specs.Values.{vclock_from}
use Rattle.mx_request.proofs.values.vclock_from.Given as goal

-- the clock so far and the remaining pairs give what all pairs give
abbrev pub invariant-loop-left : goal.invariant-loop-left
invariant-loop-left l = vclock_from l.clock (pairs_from l.left l.rest) ≡ vclock_from (replicate replicas 0) (pairs_from l.pairs.count l.pairs.bytes.now)

abbrev pub decreases-loop-left : goal.decreases-loop-left
decreases-loop-left l = l.left
