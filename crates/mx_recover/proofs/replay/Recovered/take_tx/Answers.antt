use Rattle.std.proofs.Common.{◌≡◌, true, refl, sym, ap, ◌∙◌}
use Rattle.std.specs.Prelude.{slice_set}
use Rattle.mx_row.specs.Views.{tx_view}
use Rattle.mx_recover.proofs.ReplayLaws.{is_due, not_applied, taken_rows, refused_told, refused_tx, refused_row}
use Rattle.mx_recover.proofs.replay.Recovered.take_tx.Goals as goal

pub returns-then-not-is_due : goal.returns-then-not-is_due
returns-then-not-is_due c = λ before stands.
    let tx = tx_view c.args.tx.now in
    refused_tx _ before tx (ap (λ clock. is_due clock tx) (sym stands.clock) ∙ sym c.is_due.ensures ∙ c.if-not-is_due.true)

pub returns-in-Err : goal.returns-in-Err
returns-in-Err c = λ before stands.
    let tx = tx_view c.args.tx.now in
    let fault = rw c.as_slice.ensures at (c.in-Err.ensures before.state stands.holds) in
    refused_told _ c.refused.result c.in-Err.fault c.refused.ensures (λ other.
    refused_row _ before tx (not_applied before.state tx.rows _ c.in-Err.fault fault other))

pub returns-in-Ok : goal.returns-in-Ok
returns-in-Ok c = λ before stands.
    let tx = tx_view c.args.tx.now in
    let due : is_due before.clock tx ≡ true = ap (λ clock. is_due clock tx) (sym stands.clock) ∙ sym c.is_due.ensures ∙ c.if-not-is_due.false in
    let applied = rw c.as_slice.ensures at (c.in-Ok.ensures before.state stands.holds) in
    taken_rows c.args.self.now _ before stands tx c.requires due (c.set.ensures ∙ ap (slice_set c.args.self.now.clock tx.replica.0) c.last_lsn.ensures) refl
    applied.0 applied.1
