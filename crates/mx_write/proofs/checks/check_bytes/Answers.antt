use Rattle.mx_write.proofs.FieldLaws.{checks_by_fields}
use Rattle.mx_write.proofs.checks.check_bytes.Goals as goal

pub returns : goal.returns
returns c =
    checks_by_fields c.array_or_empty.result.now c.args.bytes.now c.array_or_empty.ensures.items c.args.schema.now c.args.primary.now c.in_ok-check_size.ensures
    c.check_fields.result c.check_fields.ensures
