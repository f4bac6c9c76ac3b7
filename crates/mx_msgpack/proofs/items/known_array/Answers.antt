use Rattle.mx_msgpack.proofs.ItemLaws.{known_by_head, known_has_head}
use Rattle.mx_msgpack.proofs.items.known_array.Goals as goal

pub returns-in-Some : goal.returns-in-Some
returns-in-Some c =
    known_by_head c.args.bytes.now c.requires.array.0 c.in-Some.head c.in-Some.items.now c.item_count.result c.requires.array.1 c.in-Some.ensures.head c.item_count.ensures

pub returns-in-Ok : goal.returns-in-Ok
returns-in-Ok c =
    known_by_head c.args.bytes.now c.requires.array.0 c.in-Ok.head c.in-Ok.items.now c.item_count-in-Ok.result c.requires.array.1 c.in-Ok.ensures.exact c.item_count-in-Ok.ensures

pub returns-in-Err : goal.returns-in-Err
returns-in-Err c = absurd (known_has_head c.args.bytes.now c.requires.array.0 _ c.requires.array.1 c.in-Err.ensures.exact)
