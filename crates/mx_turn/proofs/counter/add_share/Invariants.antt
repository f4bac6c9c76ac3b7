use Rattle.std.proofs.Common.{◌≡◌}
use Rattle.mx_turn.specs.Seats.{IsIdle}
use Rattle.mx_turn.specs.Counting.{HasCounted}
use Rattle.mx_turn.proofs.counter.add_share.Given as goal

abbrev pub invariant-loop-round : goal.invariant-loop-round
invariant-loop-round g l = record { table : l.seat.table_id ≡ l.initial.seat.table_id; idle : IsIdle l.seat.me; added : HasCounted l.note.amount l._round l.initial.seat.me.0 l.seat.me.0 }
