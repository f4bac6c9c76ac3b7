use Rattle.mx_serial.proofs.OwnCommitLaws.{is_serializable}
use Rattle.mx_serial.proofs.transaction_laws.legal_histories_are_serializable.Goals as goal

pub returns : goal.returns
returns c = is_serializable
