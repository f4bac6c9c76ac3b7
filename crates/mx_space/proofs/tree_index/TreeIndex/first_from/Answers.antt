use Rattle.std.proofs.Common.{Some, sym, ap, ◌∙◌}
use Rattle.std.specs.Option.{option_map}
use Rattle.mx_entries.specs.Entries.{entry_split, first_from}
use Rattle.mx_entries.proofs.SplitLaws.{split_first}
use Rattle.mx_space.proofs.tree_index.TreeIndex.first_from.Goals as goal

pub returns-in_err-entry : goal.returns-in_err-entry
returns-in_err-entry c =
    ap (option_map (λ entry. (entry.0.now, entry.1.now))) c.from_residual.ensures
    ∙ ap (option_map entry_split) (ap (option_map (λ entry. (entry.0.now, entry.1.now))) (sym c.in_err-entry.was) ∙ c.first_begin.ensures)
    ∙ split_first c.args.key.now c.self.inside.begins.entries ∙ ap (first_from c.args.key.now) c.self.view_is

pub returns : goal.returns
returns c =
    (λ i. Some (c.as_slice.ensures i, c.behind.ensures i))
    ∙ ap (option_map entry_split) (ap (option_map (λ entry. (entry.0.now, entry.1.now))) (sym c.in_ok-entry.was) ∙ c.first_begin.ensures)
    ∙ split_first c.args.key.now c.self.inside.begins.entries ∙ ap (first_from c.args.key.now) c.self.view_is
