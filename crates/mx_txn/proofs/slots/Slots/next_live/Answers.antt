use Rattle.std.proofs.Common.{None, inl, inr, sym, ◌∙◌, arith}
use Rattle.std.proofs.lemmas.Bool.{cases_lt}
use Rattle.std.proofs.lemmas.List.{get_or_read}
use Rattle.mx_txn.proofs.StateLaws.{get-txns_of}
use Rattle.mx_txn.proofs.slots.Slots.next_live.Goals as goal

pub returns-then-is_some : goal.returns-then-is_some
returns-then-is_some c =
    let states = c.self.inside.states.items in
    let read = get_or_read states c.loop-number.number c.index.result.now (omega (arith, c.self.invariant.bounded, c.self.invariant.whole)) c.index.ensures None in
    rw (← c.self.view_is) (
      c.loop-number.auto.number,
      rw (get-txns_of states c.loop-number.number, ← read) (sym c.is_some.ensures ∙ c.if-is_some.true),
      λ slot from below. get-txns_of states slot ∙ c.loop-number.invariant slot from below,
    )

pub returns : goal.returns
returns c = λ slot from.
    let states = c.self.inside.states.items in
    rw (← c.self.view_is) (
    get-txns_of states slot
    ∙ elim (cases_lt slot c.loop-number.number) [
      | inl below ↦ c.loop-number.invariant slot from below
      | inr past ↦ c.self.invariant.vacant slot (omega arith)
    ]
    )
