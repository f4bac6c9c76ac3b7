use Rattle.std.proofs.Common.{◌∙◌, List, ap, sym}
use Rattle.std.specs.FinMap.{from_entries}
use Rattle.std.specs.Option.{option_copied_mut}
use Rattle.mx_schema.specs.declared.index_def.IndexDef.{IndexDef}
use Rattle.mx_schema.specs.declared.schema.Schema.{Schema}
use Rattle.mx_schema.specs.declared.space_def.SpaceDef.{SpaceDef}
use Rattle.mx_schema.proofs.CatalogueLaws.{index_put, index_left_out}
use Rattle.mx_schema.proofs.catalogue.Catalogue.insert_index.Goals as goal
use Rattle.mx_schema.proofs.catalogue.Catalogue.insert_index.Goals.{in-Some+in_ok-insert, in_default}

abbrev on : SpaceDef → List IndexDef → Schema
on def indexes = record { def = def; indexes = indexes }

pub returns : goal.returns
returns c =
    elim c.match-get_mut.branch [
      | in-Some+in_ok-insert w ↦
          let after : Schema = record { def = w.in-Some.schema.now.def; indexes = w.insert.new.self } in
          ap (λ inside. from_entries inside.schemas.entries) w.self-inside-is
          ∙ index_put c.self.inside.schemas (c.get_mut.follows.lender after) c.args.row c.args.self.now w.in-Some.schema.now after c.self.view_is
          (sym c.get_mut.ensures.value ∙ ap option_copied_mut w.in-Some.is)
          (ap (on w.in-Some.schema.now.def) w.in_ok-insert.ensures.ok) (c.get_mut.follows.holds after).3
      | in_default w ↦
          ap (λ inside. from_entries inside.schemas.entries) w.self-inside-is
          ∙ index_left_out c.self.inside.schemas c.get_mut.follows.lender-at-none c.args.row c.args.self.now c.self.view_is
          (sym c.get_mut.ensures.value ∙ ap option_copied_mut w.in_default.is) c.get_mut.follows.holds-at-none
    ]
