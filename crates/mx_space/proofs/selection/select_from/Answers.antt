use Rattle.std.specs.FinMap as finite
use Rattle.mx_schema.specs.Picks.{tuples_by_index}
use Rattle.mx_entries.specs.Windows.{keys_read}
use Rattle.mx_entries.proofs.PickLaws.{selects_told}
use Rattle.mx_space.proofs.selection.select_from.Goals as goal

pub returns : goal.returns
returns c = λ all keeps whole.
    let def = c.args.def.now in
    let call = c.select_from_range-is_read in
    let (key, fits, fit, edges) = c.in_ok-range.ensures.picked in
    selects_told (finite.entries (tuples_by_index def all)) def c.args.wanted.now call.new.found key fits fit (keys_read call.result call.new.range) c.keys_read.result c.keys_read.ensures
    (call.ensures all key keeps whole fits fit edges)
