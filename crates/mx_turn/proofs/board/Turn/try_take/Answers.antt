use Rattle.std.proofs.Common.{rules, arith}
use Rattle.mx_turn.proofs.StepLaws.{takes_turn}
use Rattle.mx_turn.proofs.CallLaws.{in_hand, taken}
use Rattle.mx_turn.proofs.board.Turn.try_take.Goals as goal

pub fetch_or-word-requires : goal.fetch_or-word-requires
fetch_or-word-requires g c = (search rules, search rules, takes_turn _ g.T.Logged.stands g.T.Logged.is_alone g.T.Logged.is_call _ _ _ _ _ c.requires.idle.0 c.requires.idle.2)

pub exchange-requires : goal.exchange-requires
exchange-requires g c = (search rules, in_hand _ g.T.Logged.stands g.T.Logged.is_alone g.T.Logged.is_call _ _ _ c.fetch_or-word.ensures.2 (omega arith) (omega arith))

pub returns-clause-taken : goal.returns-clause-taken
returns-clause-taken g c = taken _ g.T.Logged.stands g.T.Logged.is_alone g.T.Logged.is_call _ _ _ _ _ c.unwrap-kept.result c.requires.idle c.fetch_or-word.ensures.2 (omega arith) (omega arith) c.exchange.ensures.2 c.exchange.ensures.3 (search rules)
