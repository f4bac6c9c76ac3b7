use Rattle.std.proofs.Common.{arith}
use Rattle.mx_write.proofs.write.known_bytes.Goals as goal

pub returns-clause-each : goal.returns-clause-each
returns-clause-each c = λ i. omega (arith, c.type_inv.bytes i)
