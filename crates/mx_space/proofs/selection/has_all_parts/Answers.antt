use Rattle.mx_entries.proofs.WholeKeyLaws.{array_is_whole}
use Rattle.mx_space.proofs.selection.has_all_parts.Goals as goal

pub returns : goal.returns
returns c = λ whole key fits.
    let items = c.known_array.result in
    array_is_whole c.args.def.now.key c.args.key.now items.count items.bytes.now key c.len.result c.known_array.ensures fits c.len.ensures whole
