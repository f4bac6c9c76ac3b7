use Rattle.std.proofs.Common.{◌≤◌, ◌∙◌, arith}
use Rattle.mx_tracker.proofs.mark_set.MarkSet.add.Goals as goal

pub invariant_of-self : goal.invariant_of-self
invariant_of-self c =
    let used = c.max-self-inside.ensures in
    let own : c.loop-slot.self-inside.used ≤ c.max-self-inside.result = omega (arith, used) in
    let others : c.other.inside.used ≤ c.max-self-inside.result = omega (arith, used) in
    record {
      bounded = omega (arith, used, c.loop-slot.invariant.bounded, c.other.invariant.bounded);
      none = λ slot above.
          c.loop-slot.invariant.left slot (omega (arith, others, above, c.loop-slot.auto.slot-end)) ∙ c.loop-slot.invariant.none slot (omega (arith, own, above));
    }
