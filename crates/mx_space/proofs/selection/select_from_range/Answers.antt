use Rattle.std.proofs.Common.{length, sym, ap, ◌∙◌, subst}
use Rattle.std.specs.FinMap as finite
use Rattle.mx_schema.specs.State as plain
use Rattle.mx_schema.proofs.StoredLaws.{primary_index}
use Rattle.mx_entries.specs.Scans.{Selects}
use Rattle.mx_entries.specs.Windows.{found_in, keys_read}
use Rattle.mx_entries.proofs.WindowLaws.{all_as_long}
use Rattle.mx_entries.proofs.WholeKeyLaws.{whole_found}
use Rattle.mx_space.proofs.selection.select_from_range.Goals as goal

pub returns-in-Some : goal.returns-in-Some
returns-in-Some c = λ all key keeps whole fits fit edges.
    let def = c.args.def.now in
    let wanted = c.args.wanted.now in
    let range = c.args.range.now in
    let (first, low, exact, lengths) = c.in-Some.ensures in
    let long = all_as_long key (length def.key) (lengths key fits) (finite.entries all) (whole c.if-is_own.true first) in
    let read = c.select_row.ensures (finite.entries all) key keeps.fit fit edges
    (λ more. whole_found all keeps.fit c.args.tuples.now.entries keeps.same wanted.iterator key fit long exact range c.in-Some.key.now edges low
    wanted.offset wanted.limit more _ c.stored_row-row.ensures
    ∙ ap (λ kept. found_in kept range wanted.iterator wanted.offset wanted.limit) (sym keeps.same)) in
    subst (λ (tuples : plain.Tuples). Selects (finite.entries tuples) wanted key c.select_row.new.found (keys_read c.select_row.result c.select_row.new.range)) (sym (primary_index def all first)) read
