use Rattle.std.proofs.Common.{◌∙◌}
use Rattle.mx_space.specs.HashIndexes.{hash_index_entries}
use Rattle.mx_space.proofs.FirstTupleLaws.{none_kept}
use Rattle.mx_space.proofs.hash_index.HashIndex.new.Goals as goal

pub returns : goal.returns
returns c = (λ i. hash_index_entries (c.new.ensures.empty i) (c.new-2.ensures i)) ∙ none_kept
