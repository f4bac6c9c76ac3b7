use Rattle.mx_serial.proofs.OverlapLasting.{view_alone, view_kept}
use Rattle.mx_serial.proofs.transaction_laws.a_view_keeps_its_place.Goals as goal

pub returns-clause-place : goal.returns-clause-place
returns-clause-place c = view_kept

pub returns-clause-replies : goal.returns-clause-replies
returns-clause-replies c = view_alone
