use Rattle.mx_transactions.proofs.MoveLaws.{written_rows}
use Rattle.mx_transactions.proofs.open.OpenTransactions.gets_view.Goals as goal

pub returns-then-has-clause-none : goal.returns-then-has-clause-none
returns-then-has-clause-none c = λ none since other active marked work there. written_rows _ _ (c.is_active_without_rows.ensures.rows since active work there) none
