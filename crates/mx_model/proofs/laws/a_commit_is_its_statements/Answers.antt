use Rattle.mx_model.proofs.FrameRuns.{rows_again, run_rows}
use Rattle.mx_model.proofs.laws.a_commit_is_its_statements.Goals as goal

pub returns-clause-alone : goal.returns-clause-alone
returns-clause-alone c = run_rows

pub returns-clause-later : goal.returns-clause-later
returns-clause-later c = rows_again
