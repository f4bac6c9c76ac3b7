use Rattle.mx_model.proofs.AlonePlaces.{active_alone}
use Rattle.mx_serial.proofs.transaction_laws.a_commit_was_answered_alone.Goals as goal

pub returns : goal.returns
returns c = active_alone
