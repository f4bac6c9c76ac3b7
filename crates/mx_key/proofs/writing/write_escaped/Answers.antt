use Rattle.mx_key.proofs.EscapeLaws.{escaped_more, escaped_all, zero_within}
use Rattle.mx_key.proofs.writing.write_escaped.Goals as goal

pub split_at-requires-in-Some : goal.split_at-requires-in-Some
split_at-requires-in-Some c = zero_within c.loop-place.out c.loop-place.rest.now _ c.loop-place.invariant c.in-Some.place c.in-Some.ensures.0 _ c.split_at.ensures.back

pub loop-place-preserved : goal.loop-place-preserved
loop-place-preserved c =
    let found = c.in-Some.ensures in
    escaped_more c.loop-place.out c.loop-place.rest.now _ c.loop-place.invariant c.in-Some.place found.0 found.1 _ _ _ _ _
    c.split_at.ensures.front c.split_at.ensures.back c.split_at-in-Some.ensures.back c.in_ok-extend_from_slice.ensures c.in_ok-extend_from_slice-2.ensures

pub returns : goal.returns
returns c = escaped_all c.loop-place.out c.loop-place.rest.now _ c.loop-place.invariant c.in_default.ensures _ c.in_ok-extend_from_slice-3.ensures
