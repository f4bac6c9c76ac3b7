use denote.Exit.{yes}
use denote.Param.Send.{arg_send, param_send, sendable}
use Rattle.mx_turn.proofs.Crossing.{captures_send}
use Rattle.mx_threads.proofs.crowd.add_in_halves.Lts as lts
use Rattle.mx_threads.proofs.crowd.add_in_halves.Goals as goal

pub join-seat-requires-send-F : goal.join-seat-requires-send-F
join-seat-requires-send-F g c κs within = param_send 1 (lts.arg-0-1 g.row.R g.R.laws g.R.Threads-dict g.R.Wait-dict κs) (arg_send _ yes _ (captures_send _ _ g.row.R _ (search (sendable, c.type_bounds.sync-R))))
