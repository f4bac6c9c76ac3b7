use Rattle.mx_judge.proofs.made.Made.touch.Goals as goal

pub returns-in-Ok : goal.returns-in-Ok
returns-in-Ok c = λ seen writer write made holds outcome makes. c.in-Ok.ensures.adds seen write made holds makes
