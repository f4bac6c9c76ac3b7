use Rattle.mx_model.proofs.ConflictAnswers.{commit_told, statement_told}
use Rattle.mx_serial.proofs.transaction_laws.conflict_is_told_where_a_transaction_is_doomed.Goals as goal

pub returns-clause-commit : goal.returns-clause-commit
returns-clause-commit c = commit_told

pub returns-clause-statement : goal.returns-clause-statement
returns-clause-statement c = statement_told
