use Rattle.std.proofs.Common.{ap, sym, ◌∙◌}
use Rattle.std.specs.FinMap as finite
use Rattle.mx_hash.proofs.TableLaws.{found}
use Rattle.mx_hash.proofs.hash.Hash.get.Goals as goal

pub returns : goal.returns
returns c = c.copied.ensures ∙ c.get.ensures.value ∙ sym (found c.self.inside.numbers.entries c.args.key.now) ∙ ap (λ t. finite.get t.map c.args.key.now) c.self.view_is
