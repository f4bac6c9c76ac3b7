use Rattle.std.proofs.Common.{ap, sym, ◌∙◌}
use Rattle.mx_entries.specs.Entries.{has_entry}
use Rattle.mx_entries.proofs.SplitLaws.{split_has}
use Rattle.mx_space.proofs.tree_index.TreeIndex.contains_key.Goals as goal

pub returns : goal.returns
returns c = c.contains_key.ensures ∙ sym (split_has c.args.key.now c.self.inside.begins.entries) ∙ ap (has_entry c.args.key.now) c.self.view_is
