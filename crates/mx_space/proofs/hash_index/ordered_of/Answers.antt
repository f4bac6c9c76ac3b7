use Rattle.std.proofs.Common.{sym, ap, ◌∙◌}
use Rattle.mx_space.specs.HashIndexes.{hash_index_entries}
use Rattle.mx_space.proofs.HashIndexLaws.{in_order}
use Rattle.mx_space.proofs.hash_index.ordered_of.Goals as goal

pub returns : goal.returns
returns c =
    let copy = c.in_ok-ordered.ensures in
    c.in_ok-add_held.ensures c.in_ok-ordered.ordered (sym (in_order c.in_ok-ordered.ordered copy.ordered)) ∙ ap (hash_index_entries c.args.held.now.entries) copy.copy
