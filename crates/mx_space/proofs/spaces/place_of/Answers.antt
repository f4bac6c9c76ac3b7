use Rattle.std.proofs.Common.{ℕ, ◌+◌, ◌-◌, ◌/◌, arith}
use Rattle.mx_space.proofs.PlaceLaws.{between_above, between_below}
use Rattle.mx_space.proofs.spaces.place_of.Goals as goal

pub loop-low-preserved-then-number-id-2 : goal.loop-low-preserved-then-number-id-2
loop-low-preserved-then-number-id-2 c =
    let middle : ℕ = c.loop-low.low + (c.loop-low.high - c.loop-low.low) / 2 in
    between_above c.args.id.0 c.args.entries.now c.requires c.loop-low.low c.loop-low.high middle c.index-entries-middle.result (omega (arith, c.loop-low-test.true))
    c.loop-low.invariant c.if-number-id-2.true

pub loop-low-preserved : goal.loop-low-preserved
loop-low-preserved c =
    let middle : ℕ = c.loop-low.low + (c.loop-low.high - c.loop-low.low) / 2 in
    between_below c.args.id.0 c.args.entries.now c.requires c.loop-low.low c.loop-low.high middle c.index-entries-middle.result (omega (arith, c.loop-low-test.true))
    c.loop-low.invariant (omega arith) (omega (arith, c.if-number-id.false, c.if-number-id-2.false))
