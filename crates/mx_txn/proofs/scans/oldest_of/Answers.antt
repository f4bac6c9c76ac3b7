use Rattle.std.proofs.Common.{arith}
use Rattle.mx_txn.proofs.LeastLaws.{oldest_below}
use Rattle.mx_txn.proofs.scans.oldest_of.Goals as goal

pub returns : goal.returns
returns c = oldest_below c.args.states.now c.loop-state.state-index c.loop-state.oldest (omega arith) c.loop-state.invariant
