use Rattle.std.proofs.Common.{None}
use Rattle.mx_real.proofs.CountLaws.{each_kept}
use Rattle.mx_real.proofs.link.TcpLinkLink.rest.Goals as goal

pub returns-in-Ok-room_for-clause-left : goal.returns-in-Ok-room_for-clause-left
returns-in-Ok-room_for-clause-left g c = each_kept (λ counts. None) _ _ c.rest_in.ensures

pub returns-in-Ok-room_for-clause-came : goal.returns-in-Ok-room_for-clause-came
returns-in-Ok-room_for-clause-came g c = each_kept (λ counts. None) _ _ c.rest_in.ensures

pub returns-in-Ok-room_for-clause-gone : goal.returns-in-Ok-room_for-clause-gone
returns-in-Ok-room_for-clause-gone g c = each_kept (λ counts. None) _ _ c.rest_in.ensures

pub returns-in-Ok-room_for-clause-faults : goal.returns-in-Ok-room_for-clause-faults
returns-in-Ok-room_for-clause-faults g c = each_kept (λ counts. counts.0) _ _ c.rest_in.ensures

pub returns-in-Ok-room_for-clause-read_waits : goal.returns-in-Ok-room_for-clause-read_waits
returns-in-Ok-room_for-clause-read_waits g c = each_kept (λ counts. counts.1) _ _ c.rest_in.ensures

pub returns-in-Ok-room_for-clause-write_waits : goal.returns-in-Ok-room_for-clause-write_waits
returns-in-Ok-room_for-clause-write_waits g c = each_kept (λ counts. counts.2) _ _ c.rest_in.ensures
