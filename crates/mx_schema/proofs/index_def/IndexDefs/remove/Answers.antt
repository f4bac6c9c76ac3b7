use Rattle.std.proofs.Common.{rules, ◌∙◌, ap}
use Rattle.std.proofs.lemmas.Fn.{filter_same}
use Rattle.mx_schema.specs.SchemaChanges.{indexes_without}
use Rattle.mx_schema.proofs.index_def.IndexDefs.remove.Goals as goal

pub returns : goal.returns
returns c = filter_same _ _ _ (λ x b f' k. search rules) _ _ c.retain.ensures.filtered ∙ ap (indexes_without c.args.id.0) c.self.view_is
