use Rattle.std.proofs.Common.{◌+◌, List, drop, ap, sym, ◌∙◌}
use Rattle.std.proofs.lemmas.List.{at_drop_more}
use Rattle.mx_key.specs.declared.part.Part.{Part}
use Rattle.mx_key.specs.Parts.{key_of, part_of}
use Rattle.mx_key.specs.PartViews.{part_view}
use Rattle.mx_key.proofs.MakingLaws.{made_more, next_field}
use Rattle.mx_key.proofs.keys.key_of.Goals as goal

pub loop-part-preserved : goal.loop-part-preserved
loop-part-preserved c =
    let parts = c.as_slice-part-items.result.now in
    let others = drop (c.loop-part.part-index + 1) parts in
    let fields = c.args.fields.now in
    let found = part_view c.in_ok-found.found in
    let next =
    ap (λ (l : List Part). key_of l fields) (at_drop_more (λ (l : List Part). l) parts c.loop-part.part-index _ c.loop-part-test.true)
    ∙ next_field fields _ others found (ap (part_of _) (sym c.field.ensures) ∙ c.in_ok-found.ensures.exact) in
    made_more (key_of parts fields) (key_of (drop c.loop-part.part-index parts) fields) (key_of others fields) c.loop-part.key c.write_part.new.out found
    c.loop-part.invariant c.in_ok-found.ensures.fit next (c.in_ok-write_part.ensures c.in_ok-found.ensures.fit)
