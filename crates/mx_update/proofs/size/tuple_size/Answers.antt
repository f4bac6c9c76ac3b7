use Rattle.std.proofs.Common.{length, ◌∙◌}
use Rattle.mx_msgpack.specs.Spelling.{array_head}
use Rattle.mx_update.specs.Updates.{field_spelling}
use Rattle.mx_update.specs.Views.{field_view}
use Rattle.mx_update.proofs.SpellingLaws.{one_counted}
use Rattle.mx_update.proofs.size.tuple_size.Goals as goal

pub loop-field-preserved : goal.loop-field-preserved
loop-field-preserved c =
    let e = c.in_ok-size.ensures in
    let f = c.in_ok-field_size.ensures in
    e.1
    ∙ one_counted field_view field_spelling c.as_slice-field-items.result.now c.loop-field.field-index c.loop-field.size c.in_ok-field_size.field-0
    (length (array_head (length c.args.fields.now))) c.field-item.result c.loop-field-test.true c.field-item.is f c.loop-field.invariant
