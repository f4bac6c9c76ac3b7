use Rattle.std.proofs.Common.{sym, subst}
use Rattle.mx_txn.specs.Slots.{IsLive}
use Rattle.mx_transactions.specs.Open.{Open}
use Rattle.mx_transactions.proofs.TableLaws.{noted_table}
use Rattle.mx_transactions.proofs.open.OpenTransactions.note.Goals as goal

pub invariant_of-self : goal.invariant_of-self
invariant_of-self c =
    noted_table _ c.take.new.self c.args.slot _ c.take.result c.self.invariant (subst (λ (all : Open). IsLive all.slots c.args.slot) (sym c.self.view_is) c.requires.live)
    (rw c.number.ensures.value at c.take.ensures.ok) c.take.ensures.err
