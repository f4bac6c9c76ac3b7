use Rattle.std.proofs.Common.{◌≡◌, take}
use Rattle.mx_top.specs.TraceOutput.{units_text}
use Rattle.mx_top.proofs.output_unit.write_units.Given as goal

-- the units so far were written
abbrev pub invariant-loop-unit : goal.invariant-loop-unit
invariant-loop-unit l = l.out.items ≡ units_text (take l.unit-index l.units)
