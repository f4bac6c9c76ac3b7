use Rattle.std.proofs.Common.{◌-◌, ap, ◌∙◌}
use Rattle.mx_key.specs.Places.{after_values}
use Rattle.mx_key.proofs.PlaceLaws.{after_one}
use Rattle.mx_key.proofs.keys.pass_over.Goals as goal

pub loop-left-preserved : goal.loop-left-preserved
loop-left-preserved c =
    ap (after_values (c.loop-left.left - 1)) c.parted.ensures.after ∙ after_one c.loop-left.left c.loop-left.rest.now c.loop-left-test.true ∙ c.loop-left.invariant
