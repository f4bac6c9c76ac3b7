use Rattle.mx_serial.proofs.MemoryTold.{commit_lacked, reply_lacked, statement_lacked}
use Rattle.mx_serial.proofs.transaction_laws.memory_runs_out_only_where_it_is_asked_for.Goals as goal

pub returns-clause-commit : goal.returns-clause-commit
returns-clause-commit c = commit_lacked

pub returns-clause-statement : goal.returns-clause-statement
returns-clause-statement c = statement_lacked

pub returns-clause-reply : goal.returns-clause-reply
returns-clause-reply c = reply_lacked
