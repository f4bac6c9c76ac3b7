use Rattle.mx_xlog.specs.Lines.{TellsId}
use Rattle.mx_xlog.proofs.HeaderLaws.{none_found}
use Rattle.mx_xlog.proofs.reading.id_line.Goals as goal

pub returns-in_err-id_behind : goal.returns-in_err-id_behind
returns-in_err-id_behind c =
    let line = c.in_ok-line in
    rw c.from_residual-in_err-id_behind.ensures
    (none_found (TellsId c.args.prefix.now) line.line.now line.rest.now c.args.bytes.now line.ensures c.in_err-id_behind.ensures)
