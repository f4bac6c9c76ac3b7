use Rattle.mx_completion.proofs.CutPairLaws.{small_key}
use Rattle.mx_completion.proofs.pairs.any_key.Goals as goal

pub returns-in-Some : goal.returns-in-Some
returns-in-Some c = small_key c.args.bytes.now c.in-Some.range (rw c.in-Some.is at c.number_range.ensures)

pub returns-in-None : goal.returns-in-None
returns-in-None c = λ number low can. (rw c.in-None.is at c.number_range.ensures) number can
