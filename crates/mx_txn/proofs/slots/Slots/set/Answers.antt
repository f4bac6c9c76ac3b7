use Rattle.std.proofs.Common.{None, Some, ap, ◌∙◌}
use Rattle.std.proofs.lemmas.List.{get_or_read}
use Rattle.std.specs.FinMap.{insert}
use Rattle.mx_txn.proofs.CountLaws.{counted_set, live_within, oldest_set, state_of_live}
use Rattle.mx_txn.proofs.StateLaws.{txns_of-set}
use Rattle.mx_txn.proofs.slots.Slots.set.Goals as goal

pub invariant_of-self : goal.invariant_of-self
invariant_of-self c =
    let s = c.self.inside in
    let number = c.slot.inside.0 in
    let live = state_of_live s.states.items c.args.self.now number c.args.slot c.self.view_is c.slot.view_is c.requires in
    let read = get_or_read s.states.items number c.index_mut.result.now (live_within s.states.items number live) c.index_mut.ensures.value None in
    let searched = rw (c.deref.ensures.value, c.replace-before.ensures.after) at c.oldest_after-self-inside.ensures in
    let viewed = oldest_set s.states.items number s.used c.replace-before.result (Some c.args.state) s.oldest c.oldest_after-self-inside.result live (c.replace-before.ensures.value ∙ read) c.self.invariant.vacant c.self.invariant.viewed searched in
    rw c.replace-before.ensures.after (counted_set s.states.items s.live s.vacant_from s.used number s.oldest _ c.args.state c.self.invariant live viewed)

pub returns : goal.returns
returns c =
    let s = c.self.inside in
    let number = c.slot.inside.0 in
    let live = state_of_live s.states.items c.args.self.now number c.args.slot c.self.view_is c.slot.view_is c.requires in
    rw c.replace-before.ensures.after (
    txns_of-set s.states.items number (Some c.args.state) (live_within s.states.items number live)
    ∙ ap (λ t. insert t number c.args.state) c.self.view_is
    ∙ ap (λ n. insert c.args.self.now n c.args.state) c.slot.view_is
    )
