use Rattle.std.proofs.Common.{◌∙◌}
use Rattle.mx_msgpack.proofs.ItemLaws.{array_by_head}
use Rattle.mx_msgpack.proofs.items.is_array.Goals as goal

pub returns-in-Some : goal.returns-in-Some
returns-in-Some c = c.is_array_head.ensures ∙ array_by_head c.args.value.now c.in-Some.head c.in-Some.field-0-1.now c.requires c.in-Some.ensures.head
