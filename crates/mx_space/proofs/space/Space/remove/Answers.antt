use Rattle.std.proofs.Common.{refl, sym, ◌∙◌, subst}
use Rattle.std.specs.Vec.{with_items}
use Rattle.mx_space.specs.declared.space.Space.{Space}
use Rattle.mx_space.specs.Changes.{all_without}
use Rattle.mx_space.specs.Kept.{StoresIndexed}
use Rattle.mx_space.proofs.SpaceLaws.{items_without, space_without, space_without_alone}
use Rattle.mx_entries.proofs.KeptLaws.{none_removed}
use Rattle.mx_space.proofs.space.Space.remove.Goals as goal

pub returns-then-has_one_index-clause-ok : goal.returns-then-has_one_index-clause-ok
returns-then-has_one_index-clause-ok c = λ schema all primary wanted stores there fit is.
    let after : Space = record { schema = c.args.self.now.schema; tuples = c.remove.new.self; indexes = c.args.self.now.indexes } in
    space_without_alone schema c.args.self.now after all stores refl primary there wanted fit c.args.key.now is c.remove.ensures.entries
    (c.has_one_index.ensures.0 c.if-has_one_index.true) refl

pub returns-in_default-clause-ok : goal.returns-in_default-clause-ok
returns-in_default-clause-ok c = λ schema all primary wanted stores there fit is.
    subst (StoresIndexed schema c.args.self.now) (sym (none_removed all wanted (rw c.in_default.is at (c.in_ok-keys.ensures all wanted stores.holds.keeps fit is)))) stores

pub returns-clause-ok : goal.returns-clause-ok
returns-clause-ok c = λ schema all primary wanted stores there fit is.
    let found = rw c.in-Some.is at (c.in_ok-keys.ensures all wanted stores.holds.keeps fit is) in
    let after : Space = record { schema = c.args.self.now.schema; tuples = c.remove-2.new.self; indexes = with_items c.args.self.now.indexes c.remove_all.new.indexes } in
    space_without schema c.args.self.now after all stores refl primary there wanted fit c.args.key.now is c.remove-2.ensures.entries found.0 found.1 c.in-Some.keys.items found.2
    (items_without c.args.self.now.indexes c.remove_all.new.indexes c.in-Some.keys.items
    (c.remove_all.ensures ∙ (λ i. all_without (c.as_slice.ensures.value i) (c.as_mut_slice.ensures.value i))))
