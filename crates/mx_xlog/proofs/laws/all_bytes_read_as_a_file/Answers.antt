use Rattle.mx_xlog.proofs.FileLaws.{one_fault_line, one_reading, some_reading}
use Rattle.mx_xlog.proofs.laws.all_bytes_read_as_a_file.Goals as goal

pub returns-clause-some : goal.returns-clause-some
returns-clause-some c = some_reading

pub returns-clause-once : goal.returns-clause-once
returns-clause-once c = one_reading

pub returns-clause-line : goal.returns-clause-line
returns-clause-line c = one_fault_line
