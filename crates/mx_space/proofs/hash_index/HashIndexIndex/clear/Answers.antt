use Rattle.std.proofs.Common.{◌∙◌}
use Rattle.mx_space.specs.HashIndexes.{hash_index_entries}
use Rattle.mx_space.proofs.FirstTupleLaws.{none_kept}
use Rattle.mx_space.proofs.hash_index.HashIndexIndex.clear.Goals as goal

pub returns : goal.returns
returns c = (λ i. hash_index_entries (c.clear.ensures.empty i) (c.clear-2.ensures i)) ∙ none_kept
