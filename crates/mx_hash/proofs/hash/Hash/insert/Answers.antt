use Rattle.std.proofs.Common.{ap, sym, ◌∙◌, is_some}
use Rattle.std.specs.FinMap as finite
use Rattle.std.specs.Map.{lookup}
use Rattle.std.specs.Str.{bytes_eq}
use Rattle.mx_hash.specs.Views.{map_of}
use Rattle.mx_hash.proofs.TableLaws.{found, inserted}
use Rattle.mx_hash.proofs.hash.Hash.insert.Goals as goal

pub returns-in-Some-clause-before : goal.returns-in-Some-clause-before
returns-in-Some-clause-before c =
    let entries = c.self.inside.numbers.entries in
    c.in-Some.ensures.value
    ∙ sym (found entries c.args.key)
    ∙ ap (λ t. finite.get t.map c.args.key) c.self.view_is

pub returns-in-Some-clause-map : goal.returns-in-Some-clause-map
returns-in-Some-clause-map c =
    let numbers = c.self.inside.numbers in
    let updates = (c.get_mut.follows.holds c.args.value).3 (ap is_some (sym c.in-Some.ensures.value)) in
    inserted numbers (c.get_mut.follows.lender c.args.value) c.args.key c.args.value updates
    ∙ ap (λ t. finite.insert t.map c.args.key c.args.value) c.self.view_is

pub returns-clause-before : goal.returns-clause-before
returns-clause-before c =
    let entries = c.self.inside.numbers.entries in
    let before = rw c.unwrap.ensures at c.insert-before.ensures.old in
    before
    ∙ ap (λ m. lookup (bytes_eq c.args.key) m.entries) c.get_mut.follows.holds-at-none
    ∙ sym (found entries c.args.key)
    ∙ ap (λ t. finite.get t.map c.args.key) c.self.view_is

pub returns-clause-map : goal.returns-clause-map
returns-clause-map c =
    let numbers = c.self.inside.numbers in
    let updates = rw c.unwrap.ensures at c.insert-before.ensures.updates in
    inserted c.get_mut.follows.lender-at-none c.insert-before.new.self c.args.key c.args.value updates
    ∙ ap (λ m. finite.insert (map_of m.entries) c.args.key c.args.value) c.get_mut.follows.holds-at-none
    ∙ ap (λ t. finite.insert t.map c.args.key c.args.value) c.self.view_is
