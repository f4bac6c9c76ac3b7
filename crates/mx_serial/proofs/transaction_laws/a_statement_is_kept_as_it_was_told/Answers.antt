use Rattle.mx_model.proofs.ConflictAnswers.{statement_kept}
use Rattle.mx_serial.proofs.transaction_laws.a_statement_is_kept_as_it_was_told.Goals as goal

pub returns : goal.returns
returns c = statement_kept
