use Rattle.std.proofs.Common.{refl}
use Rattle.mx_msgpack.specs.Projections.{first_as}
use Rattle.mx_schema.specs.IndexRows.{index_part_shown, parts_among}
use Rattle.mx_schema.proofs.GatherLaws.{gathered}
use Rattle.mx_schema.proofs.part_row.parts_among.Goals as goal

pub loop-left-preserved : goal.loop-left-preserved
loop-left-preserved c =
    rw c.in_ok-push.ensures.ok
    (gathered (first_as index_part_shown) parts_among (λ spelling others. refl) c.loop-left.left c.loop-left.rest.now c.parted.result.0.now c.parted.result.1.now c.loop-left.parts _ _
    c.loop-left-test.true c.parted.ensures.first c.parted.ensures.after c.in-Some.ensures c.loop-left.invariant)
