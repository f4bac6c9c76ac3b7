use Rattle.std.proofs.Common.{ap, sym, ◌∙◌}
use Rattle.std.specs.FinMap as finite
use Rattle.mx_hash.proofs.TableLaws.{found, taken}
use Rattle.mx_hash.proofs.hash.Hash.remove.Goals as goal

pub returns-clause-before : goal.returns-clause-before
returns-clause-before c = c.remove.ensures.value ∙ sym (found c.self.inside.numbers.entries c.args.key.now) ∙ ap (λ t. finite.get t.map c.args.key.now) c.self.view_is

pub returns-clause-map : goal.returns-clause-map
returns-clause-map c =
    taken c.self.inside.numbers c.remove.new.self c.args.key.now c.remove.ensures.updates
    ∙ ap (λ t. finite.remove t.map c.args.key.now) c.self.view_is
