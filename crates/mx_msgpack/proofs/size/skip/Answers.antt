use Rattle.std.proofs.Common.{◌∙◌}
use Rattle.mx_msgpack.proofs.Measured.{measured_spelled, measured_only}
use Rattle.mx_msgpack.proofs.size.skip.Goals as goal

pub returns-clause-spelled : goal.returns-clause-spelled
returns-clause-spelled c = measured_spelled c.args.bytes.now c.measure.result c.measure.ensures

pub returns-clause-only : goal.returns-clause-only
returns-clause-only c = λ value size le s. c.measure.ensures ∙ measured_only c.args.bytes.now value size le s
