use Rattle.std.proofs.Common.{◌∙◌, ap}
use Rattle.mx_schema.specs.SchemaChecks.{space_named}
use Rattle.mx_schema.proofs.CatalogueLaws.{values_in_order}
use Rattle.mx_schema.proofs.catalogue.Catalogue.space_named.Goals as goal

pub loop-schema-init : goal.loop-schema-init
loop-schema-init c =
    ap (space_named c.args.name.now)
    (c.into_iter-schema-iterator.ensures.into_iter_gives ∙ c.values-schema-items.ensures.rest
    ∙ values_in_order c.self.inside.schemas c.args.self.now c.self.view_is c.values-schema-items.ensures.ordered)
