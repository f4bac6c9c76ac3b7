use Rattle.mx_xlog.specs.Lines.{TellsClock}
use Rattle.mx_xlog.proofs.HeaderLaws.{none_found}
use Rattle.mx_xlog.proofs.reading.clock_line.Goals as goal

pub returns-in_err-clock_in : goal.returns-in_err-clock_in
returns-in_err-clock_in c =
    let line = c.in_ok-line in
    rw c.from_residual-in_err-clock_in.ensures
    (none_found TellsClock line.line.now line.rest.now c.args.bytes.now line.ensures c.in_err-clock_in.ensures)
