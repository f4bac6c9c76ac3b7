use Rattle.std.proofs.Common.{ap, ◌∙◌}
use Rattle.std.specs.BTreeMap.{is_at}
use Rattle.std.specs.Cmp.Lexicographic.{slice_cmp}
use Rattle.std.specs.Map.{remove_entry}
use Rattle.std.specs.Ordering.{nat_cmp}
use Rattle.mx_entries.specs.Entries.{entries_split}
use Rattle.mx_entries.proofs.SplitLaws.{split_remove}
use Rattle.mx_space.proofs.tree_index.TreeIndexIndex.remove.Goals as goal

pub returns : goal.returns
returns c =
    ap entries_split c.remove.ensures.entries ∙ split_remove c.args.key.now c.self.inside.begins.entries
    ∙ ap (remove_entry (is_at (slice_cmp nat_cmp c.args.key.now))) c.self.view_is
