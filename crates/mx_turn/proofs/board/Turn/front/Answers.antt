use Rattle.std.proofs.Common.{rules}
use Rattle.mx_turn.proofs.StepLaws.{looks}
use Rattle.mx_turn.proofs.board.Turn.front.Goals as goal

pub load-requires : goal.load-requires
load-requires g c = (search rules, search rules, looks _ g.T.Logged.stands g.T.Logged.is_alone g.T.Logged.is_call _ _ _ _ _ c.requires.idle.0 c.requires.idle.2)
