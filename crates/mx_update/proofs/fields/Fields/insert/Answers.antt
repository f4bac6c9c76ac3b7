use Rattle.std.proofs.Common.{◌∙◌, ap, take, drop, ◌++◌, ◌∷◌}
use Rattle.std.specs.Prelude.{map}
use Rattle.mx_update.specs.Views.{field_view}
use Rattle.mx_update.proofs.FieldsLaws.{map_insert}
use Rattle.mx_update.proofs.fields.Fields.insert.Goals as goal

pub returns : goal.returns
returns c =
    ap (map field_view) c.in_ok-insert.ensures.items
    ∙ map_insert field_view c.self.inside.items.items c.args.place c.args.field
    ∙ ap (λ l. take c.args.place l ++ field_view c.args.field ∷ drop c.args.place l) c.self.view_is
