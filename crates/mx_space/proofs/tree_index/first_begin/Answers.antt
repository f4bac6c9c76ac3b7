use Rattle.mx_entries.proofs.SplitLaws.{first_is}
use Rattle.mx_space.proofs.tree_index.first_begin.Goals as goal

pub returns : goal.returns
returns c = first_is (λ entry. (entry.0.now, entry.1.now)) c.next.result c.args.key.now c.args.begins.now.entries c.range.result c.next.new.self (c.range.ensures.between tt) c.next.ensures.steps
