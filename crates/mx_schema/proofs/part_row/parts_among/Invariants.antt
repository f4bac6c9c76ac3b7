use Rattle.std.proofs.Common.{◌≡◌}
use Rattle.mx_msgpack.specs.Items.{values_from}
use Rattle.mx_schema.specs.IndexRows.{parts_among}
use Rattle.mx_schema.proofs.GatherLaws.{behind}
use Rattle.mx_schema.proofs.part_row.parts_among.Given as goal

abbrev pub invariant-loop-left : goal.invariant-loop-left
invariant-loop-left l = behind l.parts (parts_among (values_from l.left l.rest)) ≡ parts_among (values_from l.array.count l.array.bytes.now)

abbrev pub decreases-loop-left : goal.decreases-loop-left
decreases-loop-left l = l.left
