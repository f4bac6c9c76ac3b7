use Rattle.std.proofs.Common.{Some, refl, ap, ◌∙◌, arith}
use Rattle.std.specs.FinMap.{insert}
use Rattle.mx_txn.specs.declared.state.TxnState.TheVariants.{Active}
use Rattle.mx_txn.proofs.CountLaws.{counted_begin, len_full, len_below}
use Rattle.mx_txn.proofs.StateLaws.{get-txns_of, len-txns_of-le, txns_of-set}
use Rattle.mx_txn.proofs.slots.Slots.begin.Goals as goal

pub returns-in_default-clause-full : goal.returns-in_default-clause-full
returns-in_default-clause-full c =
    let s = c.self.inside in
    let full = len_full s.states.items s.vacant_from c.self.invariant.whole c.self.invariant.taken (rw (c.in_default.is, c.as_slice.ensures.value) at c.first_vacant.ensures) in
    (rw (← c.self.view_is) full, c.self.invariant.counted ∙ full, refl)

pub overflow_add-self : goal.overflow_add-self
overflow_add-self c = omega (arith, c.self.invariant.counted, c.self.invariant.whole, len-txns_of-le c.self.inside.states.items)

pub invariant_of-self : goal.invariant_of-self
invariant_of-self c =
    let s = c.self.inside in
    let first = rw (c.in-Some.is, c.as_slice.ensures.value) at c.first_vacant.ensures in
    rw c.max-self-inside.ensures (counted_begin s.states.items s.live s.vacant_from s.used c.in-Some.number s.oldest c.args.at c.self.invariant first)

pub returns-clause-free : goal.returns-clause-free
returns-clause-free c =
    let s = c.self.inside in
    let first = rw (c.in-Some.is, c.as_slice.ensures.value) at c.first_vacant.ensures in
    rw (← c.self.view_is) (get-txns_of s.states.items c.in-Some.number ∙ first.2)

pub returns-clause-begun : goal.returns-clause-begun
returns-clause-begun c =
    let s = c.self.inside in
    let first = rw (c.in-Some.is, c.as_slice.ensures.value) at c.first_vacant.ensures in
    txns_of-set s.states.items c.in-Some.number (Some (Active c.args.at)) (omega (arith, first.1, c.self.invariant.whole))
    ∙ ap (λ t. insert t c.in-Some.number (Active c.args.at)) c.self.view_is

pub returns-clause-room : goal.returns-clause-room
returns-clause-room c =
    let s = c.self.inside in
    let first = rw (c.in-Some.is, c.as_slice.ensures.value) at c.first_vacant.ensures in
    rw (← c.self.view_is) (len_below s.states.items c.in-Some.number c.self.invariant.whole first.1 first.2)
