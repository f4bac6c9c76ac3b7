use Rattle.std.proofs.Common.{refl}
use Rattle.mx_txn.proofs.CountLaws.{counted_none, txns_of-replicate}
use Rattle.mx_txn.proofs.slots.Slots.new.Goals as goal

pub invariant_of-result : goal.invariant_of-result
invariant_of-result c = rw (c.in_ok-resize.ensures.items, c.new-states.ensures.items, c.new-states.ensures.len) (counted_none 1024 refl)

pub returns : goal.returns
returns c = rw (c.in_ok-resize.ensures.items, c.new-states.ensures.items, c.new-states.ensures.len) (txns_of-replicate 1024)
