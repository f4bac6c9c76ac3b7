use Rattle.mx_serial.proofs.AloneSerial.{serial_commit, serial_place, serial_replies}
use Rattle.mx_serial.proofs.transaction_laws.committed_transactions_are_serializable.Goals as goal

pub returns-clause-replies : goal.returns-clause-replies
returns-clause-replies c = serial_replies

pub returns-clause-place : goal.returns-clause-place
returns-clause-place c = serial_place

pub returns-clause-rows : goal.returns-clause-rows
returns-clause-rows c = serial_commit
