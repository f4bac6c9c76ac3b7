use Rattle.mx_row.proofs.GrammarLaws.{written_spelled}
use Rattle.mx_row.proofs.laws.what_is_written_is_spelled.Goals as goal

pub returns : goal.returns
returns c = written_spelled
