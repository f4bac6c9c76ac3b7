use Rattle.mx_transactions.proofs.MoveLaws.{kept_table}
use Rattle.mx_transactions.proofs.open.OpenTransactions.prepare.Goals as goal

pub invariant_of-self : goal.invariant_of-self
invariant_of-self c = kept_table _ c.keep.new.self c.self.invariant
