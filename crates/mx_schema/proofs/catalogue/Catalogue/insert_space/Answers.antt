use Rattle.std.proofs.Common.{◌∙◌, ap}
use Rattle.std.specs.FinMap.{from_entries, insert}
use Rattle.mx_schema.specs.SchemaChecks.{with_space}
use Rattle.mx_schema.proofs.CatalogueLaws.{put}
use Rattle.mx_schema.proofs.catalogue.Catalogue.insert_space.Goals as goal

pub returns : goal.returns
returns c =
    put c.self.inside.schemas c.insert.new.self c.args.def.id.0 _ c.in_ok-insert.ensures.updates
    ∙ ap (λ indexes. insert (from_entries c.self.inside.schemas.entries) c.args.def.id.0 (record { def = c.args.def; indexes = indexes })) c.new.ensures
    ∙ ap (λ catalogue. with_space catalogue c.args.def) c.self.view_is
