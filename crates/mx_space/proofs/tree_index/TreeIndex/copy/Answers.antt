use Rattle.std.proofs.Common.{ap, ◌∙◌}
use Rattle.mx_entries.specs.Entries.{entries_split}
use Rattle.mx_space.proofs.tree_index.TreeIndex.copy.Goals as goal

pub returns : goal.returns
returns c = ap entries_split c.in_ok-copy_of_begins.ensures ∙ c.self.view_is
