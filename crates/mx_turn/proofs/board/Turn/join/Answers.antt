use Rattle.std.proofs.Common.{rules}
use Rattle.mx_turn.proofs.StepLaws.{joins}
use Rattle.mx_turn.proofs.CallLaws.{compares_joined}
use Rattle.mx_turn.proofs.board.Turn.join.Goals as goal

pub join_seat-requires : goal.join_seat-requires
join_seat-requires g c = (
  search rules,
  search rules,
  search rules,
  search rules,
  joins _ g.T.Logged.stands g.T.Logged.is_alone g.T.Logged.is_call _ _ g.T.Logged.nowhere _ _ _ _ c.requires.idle.0 c.requires.other_idle.0 c.requires.idle.2 c.requires.other_idle.2,
)

pub load-requires : goal.load-requires
load-requires g c = (
  search rules,
  search rules,
  compares_joined _ g.T.Logged.stands g.T.Logged.is_alone g.T.Logged.is_call _ _ _ _ c.args.seat.now.me.0 c.args.other.me.0 _ (search rules) c.requires.idle.0 c.requires.idle.2,
)
