use Rattle.mx_model.proofs.AloneCommits.{commit_makes, run_makes}
use Rattle.mx_serial.proofs.transaction_laws.a_commit_makes_what_its_statements_did.Goals as goal

pub returns-clause-rows : goal.returns-clause-rows
returns-clause-rows c = run_makes

pub returns-clause-journal : goal.returns-clause-journal
returns-clause-journal c = commit_makes
