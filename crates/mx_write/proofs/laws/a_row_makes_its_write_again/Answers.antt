use Rattle.mx_write.proofs.RowJudgeLaws.{made_again}
use Rattle.mx_write.proofs.laws.a_row_makes_its_write_again.Goals as goal

pub returns : goal.returns
returns c = λ before space write made row sound well outcome left. made_again before space made row sound left write outcome
