use Rattle.std.proofs.Common.{◌≡◌}
use Rattle.mx_key.specs.Places.{after_values}
use Rattle.mx_key.proofs.keys.pass_over.Given as goal

-- passing over what remains leads where the whole does
abbrev pub invariant-loop-left : goal.invariant-loop-left
invariant-loop-left l = after_values l.left l.rest ≡ after_values l.fn.count l.fn.bytes

abbrev pub decreases-loop-left : goal.decreases-loop-left
decreases-loop-left l = l.left
