use Rattle.std.proofs.Common.{◌∙◌}
use Rattle.mx_msgpack.proofs.ItemLaws.{array_by_head, no_array}
use Rattle.mx_msgpack.proofs.items.is_long_array.Goals as goal

pub returns-in-Ok : goal.returns-in-Ok
returns-in-Ok c = c.is_array_head.ensures ∙ array_by_head c.args.value.now c.in-Ok.head c.in-Ok.field-0-1.now c.requires c.in-Ok.ensures.exact

pub returns-in-Err : goal.returns-in-Err
returns-in-Err c = no_array c.args.value.now _ c.in-Err.ensures.exact
