use Rattle.mx_node.proofs.LastingLaws.{where_err}
use Rattle.mx_top.proofs.trace.end_node.Goals as goal

pub returns-in_err-end-clause-breaks : goal.returns-in_err-end-clause-breaks
returns-in_err-end-clause-breaks g c = λ start units history serves.
    where_err c.from_residual.result (c.in_err-end.ensures.breaks start units history serves)
