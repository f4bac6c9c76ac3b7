use Rattle.std.proofs.Common.{rules}
use Rattle.mx_turn.proofs.StepLaws.{splits}
use Rattle.mx_turn.proofs.board.Turn.split.Goals as goal

pub split_seat-requires : goal.split_seat-requires
split_seat-requires g c = (search rules, search rules, splits _ g.T.Logged.stands g.T.Logged.is_alone g.T.Logged.is_call _ _ _ _ c.requires.idle.0 c.requires.parts)
