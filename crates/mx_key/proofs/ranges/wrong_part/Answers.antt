use Rattle.std.proofs.Common.{◌++◌, refl, sym, arith}
use Rattle.mx_key.specs.Comparable.{part_bytes}
use Rattle.mx_key.specs.PartViews.{part_view}
use Rattle.mx_key.proofs.MakingLaws.{item_taken, item_refused, made_more, made_none}
use Rattle.mx_key.proofs.ranges.wrong_part.Goals as goal

pub returns-in_default : goal.returns-in_default
returns-in_default c =
    let refused =
    item_refused c.args.parts.now _ c.args.items.count c.loop-place.place c.loop-place.rest.now c.loop-place-test.true
    (omega (arith, c.requires)) (sym c.in_default.ensures.exact) in
    made_none _ _ _ _ c.loop-place.invariant.1 refused

pub loop-place-preserved : goal.loop-place-preserved
loop-place-preserved c =
    let before = c.loop-place.invariant in
    let found = c.in-Some in
    let taken =
    item_taken c.args.parts.now _ c.args.items.count c.loop-place.place c.loop-place.rest.now c.loop-place-test.true
    (omega (arith, c.requires)) found.after.now (part_view found.field-0-0) (sym found.ensures.exact) found.ensures.after in (
      before.0 ++ part_bytes (part_view found.field-0-0),
      made_more _ _ _ before.0 _ (part_view found.field-0-0) before.1 found.ensures.fit taken refl,
    )
