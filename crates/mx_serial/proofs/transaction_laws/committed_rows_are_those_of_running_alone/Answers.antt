use Rattle.mx_model.proofs.AloneStreams.{named_has, Stands}
use Rattle.mx_model.proofs.CommitRows.{rows_alone}
use Rattle.mx_serial.proofs.transaction_laws.committed_rows_are_those_of_running_alone.Goals as goal

pub returns : goal.returns
returns c = λ streams name transaction all named row others is.
    let by = rows_alone streams name transaction (named_has (Stands streams) name streams.transactions transaction all.each named) named row others is in
    (by.active, by.replies, by.same_rows)
