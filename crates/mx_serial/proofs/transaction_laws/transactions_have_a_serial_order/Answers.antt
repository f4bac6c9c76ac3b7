use Rattle.mx_serial.proofs.SerialOrderLaws.{serial_order}
use Rattle.mx_serial.proofs.transaction_laws.transactions_have_a_serial_order.Goals as goal

pub returns : goal.returns
returns c = serial_order
