use Rattle.std.proofs.lemmas.Result.{err_from_is_err_and}
use Rattle.mx_engine.proofs.engine.Engine.marks_of.Goals as goal

pub returns-in_err-marks_beside-clause-marks : goal.returns-in_err-marks_beside-clause-marks
returns-in_err-marks_beside-clause-marks c = λ streams write is.
    let p = err_from_is_err_and c.from_residual.result c.from_residual.ensures.1 in
    rw p.1 (c.in_err-marks_beside.ensures.marks streams write is)
