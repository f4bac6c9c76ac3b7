use Rattle.mx_model.proofs.AnswerLaws.{row_changes, no_row_no_change}
use Rattle.mx_model.proofs.laws.rows_make_their_changes.Goals as goal

pub returns-clause-row : goal.returns-clause-row
returns-clause-row c = row_changes

pub returns-clause-none : goal.returns-clause-none
returns-clause-none c = no_row_no_change
