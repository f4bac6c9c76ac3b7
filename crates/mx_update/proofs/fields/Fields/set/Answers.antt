use Rattle.std.proofs.Common.{◌∙◌, ap}
use Rattle.std.specs.Prelude.{set}
use Rattle.std.proofs.lemmas.List.{map-set}
use Rattle.mx_update.specs.Views.{field_view}
use Rattle.mx_update.proofs.fields.Fields.set.Goals as goal

pub returns : goal.returns
returns c =
    map-set field_view c.self.inside.items.items c.args.place c.args.field
    ∙ ap (λ l. set l c.args.place (field_view c.args.field)) c.self.view_is
