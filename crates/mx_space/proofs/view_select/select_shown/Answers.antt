use Rattle.std.specs.FinMap as finite
use Rattle.mx_schema.specs.Picks.{tuples_by_index}
use Rattle.mx_entries.specs.OwnWrites.{under}
use Rattle.mx_entries.specs.Windows.{keys_read}
use Rattle.mx_entries.proofs.PickLaws.{selects_told}
use Rattle.mx_space.proofs.view_select.select_shown.Goals as goal

pub returns : goal.returns
returns c = λ schema all written long stores writes whole whole_seen there have one_each each_stored.
    let def = c.args.def.now in
    let call = c.select_seen-is_read in
    let (key, fits, fit, edges) = c.in_ok-range.ensures.picked in
    selects_told (finite.entries (tuples_by_index def (under written all))) def c.args.wanted.now call.new.found key fits fit (keys_read call.result call.new.range) c.keys_read.result c.keys_read.ensures
    (call.ensures schema all written long key stores writes whole whole_seen there have one_each each_stored fits fit edges)
