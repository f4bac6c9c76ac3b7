use Rattle.std.proofs.Common.{ap, sym, ◌∙◌, arith}
use Rattle.std.specs.Option.{option_map}
use Rattle.mx_msgpack.specs.View.{view}
use Rattle.mx_key.specs.PartViews.{part_view}
use Rattle.mx_key.proofs.FitLaws.{shown_fits}
use Rattle.mx_key.proofs.part_ref.part_in.Goals as goal

pub returns-clause-fit : goal.returns-clause-fit
returns-clause-fit c part e =
    let s = c.in-Ok.ensures.spelled in
    shown_fits c.args.kind c.args.spelling.now c.in-Ok.field-0-1 s.1 (view c.in-Ok.value) (part_view part) (λ i. omega (arith, c.type_inv.spelling i)) s.2 s.3
    (sym c.part_of_type.ensures ∙ ap (option_map part_view) e)
