use Rattle.mx_msgpack.proofs.ItemLaws.{array_items}
use Rattle.mx_msgpack.proofs.laws.array_items_are_spelled.Goals as goal

pub returns : goal.returns
returns c = array_items
