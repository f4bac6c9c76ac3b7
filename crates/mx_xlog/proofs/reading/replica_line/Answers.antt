use Rattle.mx_xlog.specs.Lines.{TellsReplica}
use Rattle.mx_xlog.proofs.HeaderLaws.{none_found}
use Rattle.mx_xlog.proofs.reading.replica_line.Goals as goal

pub returns-in_err-replica_in : goal.returns-in_err-replica_in
returns-in_err-replica_in c =
    let line = c.in_ok-line in
    rw c.from_residual-in_err-replica_in.ensures
    (none_found TellsReplica line.line.now line.rest.now c.args.bytes.now line.ensures c.in_err-replica_in.ensures)
