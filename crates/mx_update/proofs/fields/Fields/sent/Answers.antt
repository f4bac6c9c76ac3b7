use Rattle.std.proofs.Common.{◌≡◌, ◌∙◌, refl, arith}
use Rattle.mx_update.specs.Updates.{Sent}
use Rattle.mx_update.specs.Views.{field_view}
use Rattle.mx_update.proofs.CountLaws.{all_few}
use Rattle.mx_update.proofs.FieldsLaws.{one_sent}
use Rattle.mx_update.proofs.fields.Fields.sent.Goals as goal

pub loop-left-preserved : goal.loop-left-preserved
loop-left-preserved c =
    rw (c.in_ok-push.ensures.items, c.parted.ensures.after)
    (one_sent field_view Sent c.loop-left.items.items _ c.parted.result.0.now c.loop-left.left c.loop-left.rest.now c.loop-left-test.true refl c.parted.ensures.first)
    ∙ c.loop-left.invariant

pub returns-clause-few : goal.returns-clause-few
returns-clause-few c =
    let none : c.loop-left.left ≡ 0 = omega (arith, c.loop-left-test.false) in
    all_few field_view c.loop-left.items.items c.loop-left.left c.loop-left.rest.now c.args.tuple.now none c.requires c.loop-left.invariant
