use Rattle.std.proofs.Common.{◌≡◌, not, drop, sym, ap, ◌∙◌, subst}
use Rattle.std.specs.Prelude.{IfOk}
use Rattle.std.proofs.lemmas.Result.{on_ok_weaker}
use Rattle.mx_entries.specs.Entries.{entries_split, has_entry, with_entry}
use Rattle.mx_entries.proofs.SplitLaws.{split_has, split_with}
use Rattle.mx_space.proofs.tree_index.TreeIndexIndex.insert.Goals as goal

pub returns-clause-is_new : goal.returns-clause-is_new
returns-clause-is_new c =
    subst (λ b. IfOk c.insert_begin.result (λ is_new. is_new ≡ not b))
    (sym (split_has c.args.key c.self.inside.begins.entries) ∙ ap (has_entry c.args.key) c.self.view_is) c.insert_begin.ensures.is_new

pub returns-clause-ok : goal.returns-clause-ok
returns-clause-ok c =
    let behind : drop c.in-Some.begin c.args.key ≡ c.args.primary.now = ap (drop c.in-Some.begin) (sym c.as_slice.ensures) ∙ c.in-Some.ensures.found in
    on_ok_weaker c.insert_begin.result
    (λ put. ap entries_split put ∙ split_with c.args.key c.in-Some.begin c.self.inside.begins.entries ∙ (λ i. with_entry c.args.key (behind i) (c.self.view_is i)))
    c.insert_begin.ensures.ok
