use Rattle.std.proofs.Common.{Err, ap}
use Rattle.mx_schema.proofs.BootstrapLaws.{none_at_fault, none_beyond}
use Rattle.mx_schema.proofs.bootstrap.shortest_of.Goals as goal

pub returns-in-Err-Bad : goal.returns-in-Err-Bad
returns-in-Err-Bad c =
    none_at_fault c.args.bytes.now c.in-Err-Bad.field-0-0 (c.in-Err-Bad.ensures.fault c.in-Err-Bad.field-0-0 (ap Err c.in-Err-Bad.field-0-is))

pub returns-then-size-bytes : goal.returns-then-size-bytes
returns-then-size-bytes c =
    none_beyond c.args.bytes.now c.in-Ok.found.1 _ c.in-Ok.ensures.spelled.0 c.in-Ok.ensures.spelled.1 c.if-size-bytes.true
