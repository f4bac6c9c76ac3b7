use Rattle.std.proofs.Common.{◌∙◌, ap, sym}
use Rattle.std.specs.FinMap as map
use Rattle.mx_schema.proofs.CatalogueLaws.{found}
use Rattle.mx_schema.proofs.catalogue.Catalogue.schema.Goals as goal

pub returns : goal.returns
returns c = c.get.ensures.value ∙ sym (found c.self.inside.schemas c.args.space.0) ∙ ap (λ catalogue. map.get catalogue c.args.space.0) c.self.view_is
