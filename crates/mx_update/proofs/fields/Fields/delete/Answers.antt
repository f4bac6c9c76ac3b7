use Rattle.std.proofs.Common.{◌∙◌, ◌+◌, ap, take, drop, ◌++◌, arith}
use Rattle.std.specs.Prelude.{map}
use Rattle.mx_update.specs.Views.{field_view}
use Rattle.mx_update.proofs.FieldsLaws.{map_remove}
use Rattle.mx_update.proofs.fields.Fields.delete.Goals as goal

pub returns : goal.returns
returns c =
    ap (map field_view) c.remove_range.ensures
    ∙ map_remove field_view c.self.inside.items.items c.min-end.result c.args.place c.args.count
    (omega (arith, c.min-end.ensures, c.len.ensures, c.saturating_add.ensures, c.self.inside.items.ok.0, c.len.type_inv))
    ∙ ap (λ l. take c.args.place l ++ drop (c.args.place + c.args.count) l) c.self.view_is
