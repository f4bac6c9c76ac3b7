use Rattle.mx_model.proofs.OverlapSteps.{standing_after, standing_at}
use Rattle.mx_serial.proofs.transaction_laws.a_write_dooms_what_is_overlapped.Goals as goal

pub returns-clause-at : goal.returns-clause-at
returns-clause-at c = standing_at

pub returns-clause-after : goal.returns-clause-after
returns-clause-after c = standing_after
