use Rattle.std.proofs.Common.{◌≡◌}
use Rattle.mx_turn.proofs.board.Turn.take.Given as goal

abbrev pub invariant-loop : goal.invariant-loop
invariant-loop g l = record { table : l.seat.table_id ≡ l.initial.seat.table_id; number : l.seat.id ≡ l.initial.seat.id; same : l.seat.me ≡ l.initial.seat.me }
