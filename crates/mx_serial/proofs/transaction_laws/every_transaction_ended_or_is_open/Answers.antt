use Rattle.mx_serial.proofs.StreamCounts.{history_counted}
use Rattle.mx_serial.proofs.transaction_laws.every_transaction_ended_or_is_open.Goals as goal

pub returns-clause-counts : goal.returns-clause-counts
returns-clause-counts c = λ base history legal. (history_counted base history legal).1

pub returns-clause-names : goal.returns-clause-names
returns-clause-names c = λ base history legal. (history_counted base history legal).0
