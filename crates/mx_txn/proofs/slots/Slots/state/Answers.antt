use Rattle.std.proofs.Common.{None, sym, ◌∙◌}
use Rattle.std.proofs.lemmas.List.{get_or_read}
use Rattle.mx_txn.proofs.CountLaws.{state_of_live, live_within}
use Rattle.mx_txn.proofs.StateLaws.{get-txns_of}
use Rattle.mx_txn.proofs.slots.Slots.state.Goals as goal

pub unwrap-requires : goal.unwrap-requires
unwrap-requires c =
    let states = c.self.inside.states.items in
    let live = state_of_live states c.args.self.now c.slot.inside.0 c.args.slot c.self.view_is c.slot.view_is c.requires in
    rw (get_or_read states c.slot.inside.0 c.index.result.now (live_within states c.slot.inside.0 live) c.index.ensures None) live

pub returns : goal.returns
returns c =
    let states = c.self.inside.states.items in
    let live = state_of_live states c.args.self.now c.slot.inside.0 c.args.slot c.self.view_is c.slot.view_is c.requires in
    let read = get_or_read states c.slot.inside.0 c.index.result.now (live_within states c.slot.inside.0 live) c.index.ensures None in
    rw (← c.slot.view_is, ← c.self.view_is) (get-txns_of states c.slot.inside.0 ∙ sym read ∙ c.unwrap.ensures)
