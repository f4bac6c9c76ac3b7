use Rattle.std.proofs.Common.{ap, ◌∙◌}
use Rattle.mx_hash.proofs.TableLaws.{moved}
use Rattle.mx_hash.proofs.hash.Hash.reserve.Goals as goal

pub returns-clause-map : goal.returns-clause-map
returns-clause-map c =
    moved c.self.inside.numbers c.reserve.new.self c.reserve.ensures.entries.0 c.reserve.ensures.unique ∙ ap (λ t. t.map) c.self.view_is
