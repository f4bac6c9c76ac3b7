use Rattle.mx_msgpack.proofs.InnerSteps.{plain_inner, inner_measured}
use Rattle.mx_msgpack.proofs.size.measure.Goals as goal

pub returns-in-Some : goal.returns-in-Some
returns-in-Some c = inner_measured c.args.bytes.now c.in-Some.rest.now (plain_inner c.args.bytes.now c.in-Some.rest.now c.in-Some.ensures.plain)
