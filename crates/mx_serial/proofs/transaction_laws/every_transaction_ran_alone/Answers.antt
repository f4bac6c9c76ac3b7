use Rattle.mx_model.proofs.StreamSteps.{history_ran}
use Rattle.mx_serial.proofs.transaction_laws.every_transaction_ran_alone.Goals as goal

pub returns-clause-ended : goal.returns-clause-ended
returns-clause-ended c = λ base history legal. (history_ran base history legal).1

pub returns-clause-still_there : goal.returns-clause-still_there
returns-clause-still_there c = λ base history legal. (history_ran base history legal).0
