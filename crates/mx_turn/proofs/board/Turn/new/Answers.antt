use Rattle.std.proofs.Common.{rules, None}
use Rattle.mx_turn.proofs.CallLaws.{opens}
use Rattle.mx_turn.proofs.board.Turn.new.Goals as goal

pub new-requires : goal.new-requires
new-requires g c = opens _ g.T.Logged.stands g.T.Logged.is_alone g.T.Logged.is_call _ _ record { value = c.args.value; note = None } _ (search rules) c.requires.seats (rw c.of.ensures c.requires.empty)
