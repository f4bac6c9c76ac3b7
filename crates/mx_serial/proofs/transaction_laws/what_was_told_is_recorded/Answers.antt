use Rattle.mx_model.proofs.RecordedReplies.{outcome_recorded}
use Rattle.mx_serial.proofs.MemoryTold.{comes_to_outcome, kept_as_told}
use Rattle.mx_serial.proofs.transaction_laws.what_was_told_is_recorded.Goals as goal

pub returns-clause-kept : goal.returns-clause-kept
returns-clause-kept c = kept_as_told

pub returns-clause-demanded : goal.returns-clause-demanded
returns-clause-demanded c = outcome_recorded

pub returns-clause-legal : goal.returns-clause-legal
returns-clause-legal c = comes_to_outcome
