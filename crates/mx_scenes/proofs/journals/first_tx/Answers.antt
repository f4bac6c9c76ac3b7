use Rattle.std.proofs.Common.{rules}
use Rattle.mx_scenes.proofs.JournalLaws.{first_is_transaction}
use Rattle.mx_scenes.proofs.journals.first_tx.Goals as goal

pub returns-clause-sound : goal.returns-clause-sound
returns-clause-sound c = first_is_transaction c.push.new.self c.in_ok-tuple.tuple c.in_ok-tuple.ensures (search rules)
