use Rattle.mx_space.proofs.PlaceLaws.{where_cloned}
use Rattle.mx_space.proofs.hash_index.copy_of_held.Goals as goal

pub returns : goal.returns
returns c = where_cloned _ (λ map. map.entries) c.args.held.now.entries c.clone.result c.clone.ensures.cases
