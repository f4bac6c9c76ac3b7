use Rattle.std.proofs.Common.{arith}
use Rattle.mx_txn.proofs.StateLaws.{len-txns_of-le}
use Rattle.mx_txn.proofs.slots.Slots.live.Goals as goal

pub returns-clause-bounded : goal.returns-clause-bounded
returns-clause-bounded c = omega (arith, c.self.invariant.counted, c.self.invariant.whole, len-txns_of-le c.self.inside.states.items)
