use Rattle.std.proofs.Common.{arith}
use Rattle.mx_update.specs.Updates.{field_spelling}
use Rattle.mx_update.specs.Views.{field_view}
use Rattle.mx_update.proofs.SpellingLaws.{one_spelled, one_within}
use Rattle.mx_update.proofs.writing.write_fields.Goals as goal

pub write_field-requires : goal.write_field-requires
write_field-requires c =
    let within = one_within field_view field_spelling c.args.fields.now c.loop-field.field-index c.field-item.result c.loop-field-test.true c.field-item.is in
    omega (arith, c.requires)

pub loop-field-preserved : goal.loop-field-preserved
loop-field-preserved c =
    one_spelled field_view field_spelling c.args.out.now c.loop-field.out c.write_field.new.out c.args.fields.now c.loop-field.field-index c.field-item.result
    c.loop-field-test.true c.field-item.is c.loop-field.invariant c.in_ok-write_field.ensures
