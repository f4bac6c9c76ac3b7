use Rattle.std.proofs.Common.{length, sym}
use Rattle.mx_msgpack.proofs.InnerSteps.{found_inner, none_inner}
use Rattle.mx_msgpack.proofs.size.inner_walked.Goals as goal

pub returns-in-Ok-clause-exact : goal.returns-in-Ok-clause-exact
returns-in-Ok-clause-exact c = sym (found_inner (length c.args.bytes.now) c.args.bytes.now c.in-Ok.rest.now c.in-Ok.ensures.exact)

pub returns-in-Err-clause-exact : goal.returns-in-Err-clause-exact
returns-in-Err-clause-exact c = sym (none_inner (length c.args.bytes.now) c.args.bytes.now _ c.in-Err.ensures.exact)
