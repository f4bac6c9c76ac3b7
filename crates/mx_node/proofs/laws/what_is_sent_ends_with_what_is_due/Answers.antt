use Rattle.mx_node.proofs.SentLaws.{sent_in_all}
use Rattle.mx_node.proofs.laws.what_is_sent_ends_with_what_is_due.Goals as goal

pub returns : goal.returns
returns c = λ start units history sent connection answers. sent_in_all start units history sent connection answers
