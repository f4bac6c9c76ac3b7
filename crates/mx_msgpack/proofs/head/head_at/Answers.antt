use Rattle.std.proofs.Common.{arith}
use Rattle.mx_msgpack.proofs.LeadingLaws.{leads_low, leads_number}
use Rattle.mx_msgpack.proofs.head.head_at.Goals as goal

pub returns-in-192-to-201-clause-exact : goal.returns-in-192-to-201-clause-exact
returns-in-192-to-201-clause-exact c =
    rw (leads_low c.args.at c.in-Some.leading.now c.args.bytes.now c.in-Some.rest.now c.in-Some.ensures.cases.0 (omega arith) (omega arith)) c.low_head.ensures.exact

pub returns-in-202-to-216-clause-exact : goal.returns-in-202-to-216-clause-exact
returns-in-202-to-216-clause-exact c =
    rw (leads_number c.args.at c.in-Some.leading.now c.args.bytes.now c.in-Some.rest.now c.in-Some.ensures.cases.0 (omega arith) (omega arith)) c.number_head.ensures.exact
