use Rattle.mx_model.proofs.OverlapCommits.{standing_moved}
use Rattle.mx_serial.proofs.transaction_laws.a_commit_moves_what_it_overlaps.Goals as goal

pub returns : goal.returns
returns c = standing_moved
