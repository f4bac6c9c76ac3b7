use Rattle.std.proofs.Common.{None, ap, ◌∙◌, arith}
use Rattle.std.proofs.lemmas.List.{get_or_read}
use Rattle.std.specs.FinMap.{remove}
use Rattle.mx_txn.proofs.CountLaws.{counted_end, live_before, live_within, oldest_set, state_of_live, vacant_after, vacant_beyond}
use Rattle.mx_txn.proofs.StateLaws.{len-remove_live, txns_of-set}
use Rattle.mx_txn.proofs.slots.Slots.end.Goals as goal

pub overflow_sub-self : goal.overflow_sub-self
overflow_sub-self c =
    let removed = len-remove_live c.args.self.now c.args.slot c.requires in
    let counted = rw c.self.view_is at c.self.invariant.counted in
    omega arith

pub invariant_of-self : goal.invariant_of-self
invariant_of-self c =
    let s = c.self.inside in
    let number = c.slot.inside.0 in
    let live = state_of_live s.states.items c.args.self.now number c.args.slot c.self.view_is c.slot.view_is c.requires in
    let read = get_or_read s.states.items number c.index_mut.result.now (live_within s.states.items number live) c.index_mut.ensures.value None in
    let searched = rw (c.deref.ensures.value, c.take-before.ensures.after) at c.oldest_after-self-inside.ensures in
    let viewed = oldest_set s.states.items number s.used c.take-before.result None s.oldest c.oldest_after-self-inside.result live (c.take-before.ensures.value ∙ read) c.self.invariant.vacant c.self.invariant.viewed searched in
    let beyond = vacant_after s.states.items number s.used None (live_before s.states.items number s.used live c.self.invariant.vacant) c.self.invariant.vacant in
    let vacant = rw (c.deref.ensures.value, c.take-before.ensures.after) at c.used_below-self-inside.ensures.vacant in
    rw (c.take-before.ensures.after, c.min-self-inside.ensures) (counted_end s.states.items s.live s.vacant_from s.used _ number s.oldest _ c.self.invariant live c.used_below-self-inside.ensures.less (vacant_beyond _ s.used _ beyond vacant) viewed)

pub returns : goal.returns
returns c =
    let s = c.self.inside in
    let number = c.slot.inside.0 in
    let live = state_of_live s.states.items c.args.self.now number c.args.slot c.self.view_is c.slot.view_is c.requires in
    rw c.take-before.ensures.after (
    txns_of-set s.states.items number None (live_within s.states.items number live)
    ∙ ap (λ t. remove t number) c.self.view_is
    ∙ ap (remove c.args.self.now) c.slot.view_is
    )
