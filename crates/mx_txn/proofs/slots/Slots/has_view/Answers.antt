use Rattle.std.proofs.Common.{◌≢◌, None, Some, inl, inr, sym, ◌∙◌, arith}
use Rattle.std.proofs.lemmas.Bool.{cases_lt}
use Rattle.std.proofs.lemmas.List.{get_or_read}
use Rattle.mx_txn.specs.declared.state.TxnState.{TxnState}
use Rattle.mx_txn.proofs.StateLaws.{get-txns_of}
use Rattle.mx_txn.proofs.slots.Slots.has_view.Goals as goal

pub returns-then-is_view : goal.returns-then-is_view
returns-then-is_view c =
    let states = c.self.inside.states.items in
    let read = get_or_read states c.loop-number.number c.index.result.now (omega (arith, c.self.invariant.bounded, c.self.invariant.whole)) c.index.ensures None in
    rw (← c.self.view_is) (c.loop-number.number, get-txns_of states c.loop-number.number ∙ sym read ∙ c.if-is_view.ensures)

some_not_none : {state : TxnState} → Some state ≢ None
some_not_none same = absurd cc

pub returns : goal.returns
returns c = λ slot view.
    let states = c.self.inside.states.items in
    let has = sym (get-txns_of states slot) ∙ (rw (← c.self.view_is) at view) in
    elim (cases_lt slot c.loop-number.number) [
      | inl below ↦ c.loop-number.invariant slot below has
      | inr past ↦ some_not_none (sym has ∙ c.self.invariant.vacant slot (omega (arith, past, c.loop-number-test.false)))
    ]
