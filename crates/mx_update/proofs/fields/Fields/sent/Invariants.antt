use Rattle.std.proofs.Common.{◌≡◌, ◌++◌}
use Rattle.std.specs.Prelude.{map}
use Rattle.mx_msgpack.specs.Items.{values_from}
use Rattle.mx_update.specs.Updates.{Sent, fields_of}
use Rattle.mx_update.specs.Views.{field_view}
use Rattle.mx_update.proofs.fields.Fields.sent.Given as goal

-- the fields so far and those that are left are all
abbrev pub invariant-loop-left : goal.invariant-loop-left
invariant-loop-left l = map field_view l.items.items ++ map Sent (values_from l.left l.rest) ≡ fields_of l.tuple

abbrev pub decreases-loop-left : goal.decreases-loop-left
decreases-loop-left l = l.left
