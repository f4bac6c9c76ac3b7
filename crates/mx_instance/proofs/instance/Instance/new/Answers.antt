use Rattle.mx_instance.proofs.StandsLaws.{stands_first}
use Rattle.mx_instance.proofs.instance.Instance.new.Goals as goal

pub new-requires-2-clause-empty : goal.new-requires-2-clause-empty
new-requires-2-clause-empty c = stands_first _ c.args.engine c.in_ok-engine.ensures.ok c.requires.begins
