use Rattle.std.proofs.Common.{◌≡◌, ◌∙◌, ap, sym, arith}
use Rattle.std.specs.List.{insert}
use Rattle.mx_schema.specs.RowParts.{index_place}
use Rattle.mx_schema.specs.SchemaChecks.{indexes_with}
use Rattle.mx_schema.proofs.IndexLaws.{inserted, place_within}
use Rattle.mx_schema.proofs.index_def.IndexDefs.insert.Goals as goal

pub insert-requires : goal.insert-requires
insert-requires c =
    let place : c.place_of-place.result ≡ index_place c.args.def.id.0 c.self.inside.items.items =
    c.place_of-place.ensures ∙ ap (index_place c.args.def.id.0) c.as_slice.ensures.value in
    let within = place_within c.args.def.id.0 c.self.inside.items.items in
    let long = c.self.inside.items.ok.0 in
    omega arith

pub returns-clause-ok : goal.returns-clause-ok
returns-clause-ok c =
    c.in_ok-insert.ensures.items
    ∙ ap (λ place. insert c.self.inside.items.items place c.args.def) (c.place_of-place.ensures ∙ ap (index_place c.args.def.id.0) c.as_slice.ensures.value)
    ∙ sym (inserted c.args.def c.self.inside.items.items) ∙ ap (indexes_with c.args.def) c.self.view_is
