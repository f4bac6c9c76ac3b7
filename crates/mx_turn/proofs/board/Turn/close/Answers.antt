use Rattle.std.proofs.Common.{rules, ◌≡◌, subst}
use Rattle.mx_turn.specs.Seats.{IsClosed}
use Rattle.mx_turn.proofs.CallLaws.{closed}
use Rattle.mx_turn.proofs.board.Turn.close.Goals as goal

pub unwrap-content-requires : goal.unwrap-content-requires
unwrap-content-requires g c =
    let found = closed _ g.T.Logged.stands g.T.Logged.is_alone g.T.Logged.is_call _ _ _ c.args.seat.me _ _ _ c.close_with-closed.ensures.values.2 c.requires.idle c.requires.parts c.take.ensures.value in rw found.1 (search rules)

pub returns : goal.returns
returns g c =
    let found = closed _ g.T.Logged.stands g.T.Logged.is_alone g.T.Logged.is_call _ _ _ c.args.seat.me _ _ _ c.close_with-closed.ensures.values.2 c.requires.idle c.requires.parts c.take.ensures.value in
    let one : found.0 ≡ c.unwrap-content.result = (cc) in subst (λ k. IsClosed g.T.Logged.stands g.T.Logged.is_call c.args.seat.me k.value) one found.2
