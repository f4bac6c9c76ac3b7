use Rattle.std.proofs.Common.{◌∙◌, ap, sym}
use Rattle.std.specs.FinMap as map
use Rattle.mx_schema.proofs.CatalogueLaws.{found}
use Rattle.mx_schema.proofs.catalogue.Catalogue.into_schemas.Goals as goal

pub returns : goal.returns
returns c = λ space. sym (found c.self.inside.schemas space) ∙ ap (λ catalogue. map.get catalogue space) c.self.view_is
