use Rattle.mx_model.specs.Streams.{outcome_of}
use Rattle.mx_model.proofs.AloneRequests.{outcome_kept}
use Rattle.mx_model.proofs.AloneStreams.{kept_after, kept_left}
use Rattle.mx_serial.proofs.transaction_laws.open_transactions_stand_alone.Goals as goal

pub returns-clause-asked : goal.returns-clause-asked
returns-clause-asked c = λ streams name asked all can. kept_after streams name all (outcome_of streams name asked) (outcome_kept streams name all asked can)

pub returns-clause-left : goal.returns-clause-left
returns-clause-left c = kept_left
