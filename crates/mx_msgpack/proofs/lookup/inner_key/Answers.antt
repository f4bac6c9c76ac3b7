use Rattle.std.proofs.Common.{sym}
use Rattle.mx_msgpack.proofs.PassLaws.{key_inner}
use Rattle.mx_msgpack.proofs.lookup.inner_key.Goals as goal

pub returns-in-Some-clause-after : goal.returns-in-Some-clause-after
returns-in-Some-clause-after c = sym (key_inner c.args.bytes.now (c.in-Some.number, c.in-Some.rest.now) c.in-Some.ensures)
