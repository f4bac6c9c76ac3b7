use Rattle.mx_top.proofs.RunLaws.{all_answered, all_written}
use Rattle.mx_top.proofs.laws.no_reply_is_missing.Goals as goal

pub returns-clause-written : goal.returns-clause-written
returns-clause-written c = λ seed input before left output_old output_new old new served was.
    all_written seed input before left output_old output_new old new served was

pub returns-clause-answered : goal.returns-clause-answered
returns-clause-answered c = λ seed input left output_old output_new old new served rest told.
    all_answered seed input left output_old output_new old new served rest told
