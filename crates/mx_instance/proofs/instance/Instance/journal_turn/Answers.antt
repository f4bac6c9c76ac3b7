use Rattle.std.proofs.Common.{◌≡◌, ℕ, List, ◌∷◌, ◌++◌, sym, ap, subst}
use Rattle.mx_row.specs.declared.tx.Tx.{Tx}
use Rattle.mx_model.specs.Bases.{Base}
use Rattle.mx_model.specs.Histories.{History, IsLegal, Took}
use Rattle.mx_store.specs.Stores.{JournalHas}
use Rattle.mx_instance.specs.Passes.{Seen, seen_by}
use Rattle.mx_instance.specs.Standing.{BeganOver}
use Rattle.mx_instance.proofs.JournalLaws.{can_confirm, has_then, lasts_now, lasts_then, legal_then, turned}
use Rattle.mx_instance.proofs.instance.Instance.journal_turn.Goals as goal

-- the transactions as the journal is given them
legal_as : (base : Base) (history : History) (upto : ℕ) (txs slice : List Tx) → slice ≡ txs → IsLegal base (Took txs upto ∷ history)
    → IsLegal base (Took slice upto ∷ history)
legal_as base history upto txs slice same legal = subst (λ (l : List Tx). IsLegal base (Took l upto ∷ history)) (sym same) legal

pub write_taken-requires : goal.write_taken-requires
write_taken-requires g c =
    let (base, begins, has) = c.requires.has in
    let pending = c.take_pending-pending.result in
    let old = seen_by c.args.pass.now in
    let middle = seen_by c.take_pending-pending.new.pass in
    let took = c.take_pending-pending.ensures.took in
    let history = took.others ++ old.seen in
    record {
      has = (
        base,
        history,
        pending.upto,
        has_then base old middle c.requires.first begins pending.txs pending.upto took c.args.journal.now (g.D.Dir.states c.args.dir.now) has,
        legal_as base history pending.upto pending.txs c.as_slice.result.now c.as_slice.ensures
            (legal_then base old middle c.requires.first begins pending.txs pending.upto took),
      );
    }

pub confirm-requires-clause-taken : goal.confirm-requires-clause-taken
confirm-requires-clause-taken g c = λ base begins.
    let pending = c.take_pending-pending.result in
    let took = c.take_pending-pending.ensures.took in
    can_confirm base (seen_by c.args.pass.now) (seen_by c.take_pending-pending.new.pass) c.requires.first
    (subst (λ b. BeganOver b base) (ap (λ (s : Seen). s.base) took.view) begins) pending.txs pending.upto took

pub returns-in_err-write_taken-clause-lasts : goal.returns-in_err-write_taken-clause-lasts
returns-in_err-write_taken-clause-lasts g c = λ base begins has.
    let before = g.D.Dir.states c.args.dir.now in
    let pending = c.take_pending-pending.result in
    let old = seen_by c.args.pass.now in
    let middle = seen_by c.take_pending-pending.new.pass in
    let took = c.take_pending-pending.ensures.took in
    let history = took.others ++ old.seen in
    lasts_then base old middle c.requires.first begins pending.txs pending.upto took before (g.D.Dir.states c.write_taken.new.dir)
    (c.write_taken.ensures.lasts base history pending.upto
    (has_then base old middle c.requires.first begins pending.txs pending.upto took c.args.journal.now before has)
    (legal_as base history pending.upto pending.txs c.as_slice.result.now c.as_slice.ensures
    (legal_then base old middle c.requires.first begins pending.txs pending.upto took)))

pub returns-clause-turned : goal.returns-clause-turned
returns-clause-turned g c = λ base begins has.
    let before = g.D.Dir.states c.args.dir.now in
    let after = g.D.Dir.states c.write_taken.new.dir in
    let pending = c.take_pending-pending.result in
    let old = seen_by c.args.pass.now in
    let middle = seen_by c.take_pending-pending.new.pass in
    let took = c.take_pending-pending.ensures.took in
    let history = took.others ++ old.seen in
    turned base old middle c.requires.first begins pending.txs pending.upto took (seen_by c.confirm.new.pass) c.confirm.ensures.confirmed
    c.write_taken.new.journal after
    (subst (λ (l : List Tx). JournalHas base (Took l pending.upto ∷ history) c.write_taken.new.journal after) c.as_slice.ensures
    (c.in_ok-write_taken.ensures.has base history pending.upto
    (has_then base old middle c.requires.first begins pending.txs pending.upto took c.args.journal.now before has)
    (legal_as base history pending.upto pending.txs c.as_slice.result.now c.as_slice.ensures
    (legal_then base old middle c.requires.first begins pending.txs pending.upto took))))

pub returns-clause-lasts : goal.returns-clause-lasts
returns-clause-lasts g c = λ base begins has.
    let before = g.D.Dir.states c.args.dir.now in
    let after = g.D.Dir.states c.write_taken.new.dir in
    let pending = c.take_pending-pending.result in
    let old = seen_by c.args.pass.now in
    let middle = seen_by c.take_pending-pending.new.pass in
    let took = c.take_pending-pending.ensures.took in
    let history = took.others ++ old.seen in
    lasts_now base old middle c.requires.first begins pending.txs pending.upto took (seen_by c.confirm.new.pass) c.confirm.ensures.confirmed before after
    (c.write_taken.ensures.lasts base history pending.upto
    (has_then base old middle c.requires.first begins pending.txs pending.upto took c.args.journal.now before has)
    (legal_as base history pending.upto pending.txs c.as_slice.result.now c.as_slice.ensures
    (legal_then base old middle c.requires.first begins pending.txs pending.upto took)))
