use Rattle.mx_transactions.proofs.TableLaws.{new_table}
use Rattle.mx_transactions.proofs.open.OpenTransactions.new.Goals as goal

pub invariant_of-result : goal.invariant_of-result
invariant_of-result c = new_table _ c.in_ok-new.ensures c.in_ok-new-2.ensures c.in_ok-new-3.ensures c.in_ok-idle_works.ensures.length c.in_ok-idle_works.ensures.idle
