use Rattle.mx_row.proofs.GrammarLaws.{read_spelled}
use Rattle.mx_row.proofs.laws.what_is_read_is_spelled.Goals as goal

pub returns : goal.returns
returns c = read_spelled
