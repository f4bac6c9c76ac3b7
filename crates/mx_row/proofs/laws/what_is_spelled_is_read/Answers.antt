use Rattle.mx_row.proofs.EntryLaws.{map_spelled}
use Rattle.mx_row.proofs.GrammarLaws.{spelled_read}
use Rattle.mx_row.proofs.laws.what_is_spelled_is_read.Goals as goal

pub returns-clause-read : goal.returns-clause-read
returns-clause-read c = spelled_read

pub returns-clause-map : goal.returns-clause-map
returns-clause-map c = map_spelled
