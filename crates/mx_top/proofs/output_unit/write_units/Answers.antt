use Rattle.std.proofs.Common.{ℕ, List, ◌++◌, ap, ◌∙◌}
use Rattle.mx_top.specs.TraceOutput.{unit_text}
use Rattle.mx_top.proofs.UnitLaws.{units_text-more}
use Rattle.mx_top.proofs.output_unit.write_units.Goals as goal

pub loop-unit-preserved : goal.loop-unit-preserved
loop-unit-preserved c =
    c.in_ok-write_unit.ensures
    ∙ ap (λ (l : List ℕ). l ++ unit_text c.unit-item.result) c.loop-unit.invariant
    ∙ units_text-more c.args.units.now c.loop-unit.unit-index c.unit-item.result c.loop-unit-test.true c.unit-item.is
