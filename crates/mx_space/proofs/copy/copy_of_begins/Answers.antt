use Rattle.mx_space.proofs.PlaceLaws.{where_cloned}
use Rattle.mx_space.proofs.copy.copy_of_begins.Goals as goal

pub returns : goal.returns
returns c = where_cloned _ (λ map. map.entries) c.args.begins.now.entries c.clone.result c.clone.ensures.cases
