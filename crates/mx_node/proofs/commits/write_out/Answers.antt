use Rattle.std.proofs.Common.{List, ◌∷◌, refl, sym, subst, arith}
use Rattle.mx_row.specs.declared.tx.Tx.{Tx}
use Rattle.mx_model.specs.Histories.{Took, IsLegal}
use Rattle.mx_model.proofs.HistoryLaws.{steps_of_ledger}
use Rattle.mx_serial.proofs.ToldLaws.{may_leave_once_confirmed}
use Rattle.mx_store.specs.Stores.{JournalHas}
use Rattle.mx_store.proofs.StoreLaws.{has_confirmed, lasts_none}
use Rattle.mx_node.proofs.commits.write_out.Goals as goal

pub write_taken-requires : goal.write_taken-requires
write_taken-requires g c =
    let (base, history, behind) = c.requires in
    let pending = c.take_pending-pending in
    let upto = pending.result.upto in
    record {
      has = (
        base,
        history,
        upto,
        behind.has,
        subst (λ (txs : List Tx). IsLegal base (Took txs upto ∷ history)) (sym c.as_slice.ensures) (pending.ensures base history behind.stands).legal,
      );
    }

pub returns-clause-ready : goal.returns-clause-ready
returns-clause-ready g c = λ base history behind.
    let pending = c.take_pending-pending in
    let txs = pending.result.txs in
    let upto = pending.result.upto in
    let took = pending.ensures base history behind.stands in
    let confirmed = c.confirm.ensures base (Took txs upto ∷ history) took (0, omega arith, refl) in
    let legal = subst (λ (l : List Tx). IsLegal base (Took l upto ∷ history)) (sym c.as_slice.ensures) took.legal in
    let has = subst (λ (l : List Tx). JournalHas base (Took l upto ∷ history) c.write_taken.new.journal (g.D.Dir.states c.write_taken.new.dir)) c.as_slice.ensures
    (c.in_ok-write_taken.ensures.has base history upto behind.has legal) in (
      txs,
      upto,
      record {
        behind = record {
          stands = confirmed;
          has = has_confirmed base (Took txs upto ∷ history) upto c.write_taken.new.journal (g.D.Dir.states c.write_taken.new.dir) confirmed.legal has;
        };
        taken = refl;
        gate = may_leave_once_confirmed base txs upto history (omega (arith, confirmed.legal.0.1.1, steps_of_ledger base history));
      },
    )

pub returns-in_err-write_taken-clause-lasts : goal.returns-in_err-write_taken-clause-lasts
returns-in_err-write_taken-clause-lasts g c = λ base history behind.
    let pending = c.take_pending-pending in
    let upto = pending.result.upto in
    c.write_taken.ensures.lasts base history upto behind.has
    (subst (λ (l : List Tx). IsLegal base (Took l upto ∷ history)) (sym c.as_slice.ensures) (pending.ensures base history behind.stands).legal)

pub returns-clause-lasts : goal.returns-clause-lasts
returns-clause-lasts g c = λ base history behind.
    let pending = c.take_pending-pending in
    let upto = pending.result.upto in
    c.write_taken.ensures.lasts base history upto behind.has
    (subst (λ (l : List Tx). IsLegal base (Took l upto ∷ history)) (sym c.as_slice.ensures) (pending.ensures base history behind.stands).legal)

pub returns-then-not-has_room-clause-lasts : goal.returns-then-not-has_room-clause-lasts
returns-then-not-has_room-clause-lasts g c = λ base history behind. lasts_none base history (g.D.Dir.states c.args.dir.now)
