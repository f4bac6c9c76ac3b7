use Rattle.std.proofs.Common.{List, ap, inl, refl, sym, ◌∙◌}
use Rattle.std.proofs.lemmas.List.{nil_from_length}
use Rattle.mx_msgpack.specs.Items.{values_from}
use Rattle.mx_key.specs.declared.part.Part.{Part}
use Rattle.mx_key.specs.declared.fault.NoKey.TheVariants.{Missing, Wrong}
use Rattle.mx_key.specs.Parts.{key_of}
use Rattle.mx_key.specs.PartViews.{part_view}
use Rattle.mx_key.proofs.KeyArrayLaws.{array_made, array_more, array_none}
use Rattle.mx_key.proofs.MakingLaws.{next_field, no_field}
use Rattle.mx_key.proofs.PlaceLaws.{array_key, after_field, part_there, no_part_there, part_missing}
use Rattle.mx_key.proofs.arrays.key_array_of_tuple.Goals as goal

pub returns-in_default-bytes_from : goal.returns-in_default-bytes_from
returns-in_default-bytes_from c =
    let items = c.known_array-items.result in
    let fields = values_from items.count items.bytes.now in
    let part = c.in-Some.part.now in
    let missing = no_field fields part c.in-Some.others.now (Missing part.field) (part_missing part items.count items.bytes.now c.in_default-bytes_from.ensures) in
    let left = ap (λ (parts : List Part). key_of parts fields) c.in-Some.ensures.cases.0 ∙ missing in
    let made = array_none _ _ _ _ _ c.loop-part.invariant.0 left in
    inl (Missing part.field, refl, array_key c.args.tuple.now items.count items.bytes.now c.args.def.now _ c.known_array-items.ensures c.as_slice-rest.ensures ∙ made)

pub returns-in_default-part_at : goal.returns-in_default-part_at
returns-in_default-part_at c =
    let items = c.known_array-items.result in
    let fields = values_from items.count items.bytes.now in
    let part = c.in-Some.part.now in
    let place = c.in-Some-bytes_from.ensures in
    let refused = no_part_there part items.count items.bytes.now c.in-Some-bytes_from.bytes.now place.0 place.1 (sym c.in_default-part_at.ensures.exact) in
    let left = ap (λ (parts : List Part). key_of parts fields) c.in-Some.ensures.cases.0 ∙ no_field fields part c.in-Some.others.now (Wrong part.field part.kind) refused in
    let made = array_none _ _ _ _ _ c.loop-part.invariant.0 left in
    inl (Wrong part.field part.kind, refl, array_key c.args.tuple.now items.count items.bytes.now c.args.def.now _ c.known_array-items.ensures c.as_slice-rest.ensures ∙ made)

pub loop-part-preserved : goal.loop-part-preserved
loop-part-preserved c =
    let items = c.known_array-items.result in
    let fields = values_from items.count items.bytes.now in
    let found = part_view c.in-Some-part_at.found in
    let place = c.in-Some-bytes_from.ensures in
    let there = part_there c.in-Some.part.now items.count items.bytes.now c.in-Some-bytes_from.bytes.now place.0 place.1 found (sym c.in-Some-part_at.ensures.exact) in
    let next =
    ap (λ (parts : List Part). key_of parts fields) c.in-Some.ensures.cases.0
    ∙ next_field fields c.in-Some.part.now c.in-Some.others.now found there in (
      array_more _ _ _ _ c.loop-part.key c.write_spelling.new.out found c.loop-part.invariant.0 c.in-Some-part_at.ensures.fit next c.in_ok-write_spelling.ensures,
      after_field c.in-Some.part.now.field c.in-Some-bytes_from.bytes.now c.in-Some-part_at.after.now items.bytes.now place.1 c.in-Some-part_at.ensures.after,
    )

pub returns : goal.returns
returns c =
    let items = c.known_array-items.result in
    let fields = values_from items.count items.bytes.now in
    let (key, made, fits, written) = array_made c.as_slice-rest.result.now c.loop-part.rest.now fields c.loop-part.key (nil_from_length _ c.in_default.ensures.cases) c.loop-part.invariant.0 in
    (key, array_key c.args.tuple.now items.count items.bytes.now c.args.def.now _ c.known_array-items.ensures c.as_slice-rest.ensures ∙ made, fits, written)
