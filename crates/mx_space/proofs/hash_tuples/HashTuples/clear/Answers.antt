use Rattle.std.proofs.Common.{ap, ◌∙◌}
use Rattle.mx_space.specs.HashViews.{hash_entries}
use Rattle.mx_space.proofs.FirstTupleLaws.{none_kept}
use Rattle.mx_space.proofs.hash_tuples.HashTuples.clear.Goals as goal

pub returns : goal.returns
returns c = ap hash_entries c.clear.ensures.empty ∙ none_kept
