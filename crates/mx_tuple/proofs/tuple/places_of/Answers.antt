use Rattle.std.proofs.Common.{length, ap, ◌∙◌, arith}
use Rattle.mx_msgpack.proofs.ItemLaws.{parted_within}
use Rattle.mx_tuple.proofs.FieldLaws.{one_place}
use Rattle.mx_tuple.proofs.tuple.places_of.Goals as goal

pub loop-left-preserved : goal.loop-left-preserved
loop-left-preserved c =
    let first = c.parted.ensures.first in
    let after = c.parted.ensures.after in
    let whole = c.loop-left.rest.now in
    record {
      within = omega (arith, c.loop-left.invariant.within, ap length first, ap length after, parted_within whole);
      same =
          rw (c.in_ok-push.ensures.items, first, after) (one_place c.loop-left.places.items c.loop-left.at c.loop-left.left whole c.loop-left-test.true)
          ∙ c.loop-left.invariant.same;
    }
