use Rattle.std.proofs.Common.{sym}
use Rattle.mx_msgpack.proofs.InnerSteps.{plain_inner}
use Rattle.mx_msgpack.proofs.size.after_inner.Goals as goal

pub returns-in-Some-clause-exact : goal.returns-in-Some-clause-exact
returns-in-Some-clause-exact c = sym (plain_inner c.args.bytes.now c.in-Some.rest.now c.in-Some.ensures.plain)
