use Rattle.std.proofs.Common.{length, sym, ap, ◌∙◌, subst}
use Rattle.std.specs.Cmp.Lexicographic.{slice_cmp}
use Rattle.std.specs.List.Sorted.{IsStrictlySortedBy}
use Rattle.std.specs.Map.{keys_of}
use Rattle.std.specs.Ordering.{nat_cmp}
use Rattle.mx_entries.proofs.SplitLaws.{split_keys, split_length}
use Rattle.mx_space.proofs.tree_index.TreeIndex.len.Goals as goal

pub returns-clause-len : goal.returns-clause-len
returns-clause-len c = c.len.ensures.len ∙ sym (split_length c.self.inside.begins.entries) ∙ ap length c.self.view_is

pub returns-clause-ordered : goal.returns-clause-ordered
returns-clause-ordered c =
    subst (IsStrictlySortedBy (slice_cmp nat_cmp)) (sym (split_keys c.self.inside.begins.entries) ∙ ap keys_of c.self.view_is) c.len.ensures.ordered
