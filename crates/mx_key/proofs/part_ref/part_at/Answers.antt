use Rattle.std.proofs.Common.{ap, sym, ◌∙◌, arith}
use Rattle.std.specs.Option.{option_map}
use Rattle.mx_msgpack.specs.View.{view}
use Rattle.mx_key.specs.declared.part_ref.PartRef.{PartRef}
use Rattle.mx_key.specs.PartViews.{part_view}
use Rattle.mx_key.proofs.PlaceLaws.{first_read, part_first, no_part_first}
use Rattle.mx_key.proofs.FitLaws.{shown_fits}
use Rattle.mx_key.proofs.part_ref.part_at.Goals as goal

pub returns-in_default-clause-exact : goal.returns-in_default-clause-exact
returns-in_default-clause-exact c = sym (no_part_first c.args.kind c.args.bytes.now c.in_default.field-0 c.in_default.ensures.exact)

pub returns-in_err-part-clause-exact : goal.returns-in_err-part-clause-exact
returns-in_err-part-clause-exact c =
    ap (option_map (λ (x : PartRef × _). part_view x.0)) c.from_residual.ensures
    ∙ ap (option_map part_view) (sym c.in_err-part.was) ∙ c.part_of_type.ensures
    ∙ sym (part_first c.args.kind c.args.bytes.now (view c.in-Ok.value) c.in-Ok.size c.in-Ok.ensures.exact)

pub returns-clause-exact : goal.returns-clause-exact
returns-clause-exact c =
    ap (option_map part_view) (sym c.in_ok-part.was) ∙ c.part_of_type.ensures
    ∙ sym (part_first c.args.kind c.args.bytes.now (view c.in-Ok.value) c.in-Ok.size c.in-Ok.ensures.exact)

pub returns-clause-after : goal.returns-clause-after
returns-clause-after c =
    c.split_at.ensures.back ∙ sym (first_read c.args.bytes.now (view c.in-Ok.value) c.in-Ok.size c.in-Ok.ensures.exact).1

pub returns-clause-fit : goal.returns-clause-fit
returns-clause-fit c =
    let s = c.in-Ok.ensures.spelled in
    shown_fits c.args.kind c.args.bytes.now c.in-Ok.size s.1 (view c.in-Ok.value) (part_view c.in_ok-part.part) (λ i. omega (arith, c.type_inv.bytes i)) s.2 s.3
    (sym c.part_of_type.ensures ∙ ap (option_map part_view) c.in_ok-part.was)
