use Rattle.mx_node.proofs.AnsweringLaws.{determined}
use Rattle.mx_node.proofs.laws.what_is_sent_is_determined.Goals as goal

pub returns : goal.returns
returns c = λ start units one other sent more legal memory answers other_legal other_memory other_answers. determined start units one other sent more legal memory answers other_legal other_memory other_answers
