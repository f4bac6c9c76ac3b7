use Rattle.std.proofs.Common.{◌++◌, List, ℕ, ap, refl, inl, append_assoc, ◌∙◌, arith}
use Rattle.mx_key.specs.Comparable.{part_bytes}
use Rattle.mx_key.proofs.MakingLaws.{item_taken, item_refused, made_more, made_none}
use Rattle.mx_key.proofs.ranges.write_items.Goals as goal

pub returns-in_default : goal.returns-in_default
returns-in_default c =
    let refused =
    item_refused c.args.parts.now _ c.args.items.count c.loop-place.place c.loop-place.rest.now c.loop-place-test.true
    (omega (arith, c.requires)) (rw c.in_default.is at c.in_ok-after.ensures) in
    inl (_, refl, made_none _ _ _ _ c.loop-place.invariant.1 refused)

pub loop-place-preserved : goal.loop-place-preserved
loop-place-preserved c =
    let before = c.loop-place.invariant in
    let (part, is, fits, behind, written) = rw c.in-Some.is at c.in_ok-after.ensures in
    let taken =
    item_taken c.args.parts.now _ c.args.items.count c.loop-place.place c.loop-place.rest.now c.loop-place-test.true
    (omega (arith, c.requires)) c.in-Some.after.now part is behind in (
      before.0 ++ part_bytes part,
      made_more _ _ _ before.0 (before.0 ++ part_bytes part) part before.1 fits taken refl,
      written ∙ ap (λ (l : List ℕ). l ++ part_bytes part) before.2 ∙ append_assoc c.args.out.now before.0 (part_bytes part),
    )
