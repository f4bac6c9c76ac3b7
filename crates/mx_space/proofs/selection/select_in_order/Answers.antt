use Rattle.std.proofs.Common.{◌+◌, take, sym, ap, ◌∙◌, subst}
use Rattle.std.specs.FinMap as finite
use Rattle.mx_schema.specs.Picks.{tuples_by_index}
use Rattle.mx_schema.specs.State as plain
use Rattle.mx_schema.specs.Stored.{StoresTuples}
use Rattle.mx_schema.proofs.StoredLaws.{primary_index}
use Rattle.mx_entries.specs.Scans.{Selects}
use Rattle.mx_entries.specs.Windows.{found_in, keys_read}
use Rattle.mx_space.proofs.FirstTupleLaws.{found_first}
use Rattle.mx_entries.proofs.WindowLaws.{kept_stored}
use Rattle.mx_space.proofs.selection.select_in_order.Goals as goal

pub returns-then-is_all : goal.returns-then-is_all
returns-then-is_all c = λ all key keeps fit edges.
    let def = c.args.def.now in
    let wanted = c.args.wanted.now in
    let range = c.args.range.now in
    let (low, high, up) = c.is_all.ensures c.if-is_all.true in
    let read = c.select_range.ensures (finite.entries all) key keeps.fit fit edges
    (found_first range wanted.iterator low high up wanted.offset wanted.limit c.as_map.result.now.entries c.args.tuples.now.entries
    (ap (take (wanted.offset + wanted.limit)) c.as_map.ensures ∙ c.in_ok-first.ensures)
    ∙ ap (λ kept. found_in kept range wanted.iterator wanted.offset wanted.limit) (sym keeps.same)) in
    subst (λ (tuples : plain.Tuples). Selects (finite.entries tuples) wanted key c.select_range.new.found (keys_read c.select_range.result c.select_range.new.range)) (sym (primary_index def all c.if-def-eq0.true)) read

pub returns : goal.returns
returns c = λ all key keeps fit edges.
    let def = c.args.def.now in
    let wanted = c.args.wanted.now in
    let ordered : StoresTuples c.as_map-2.result.now.entries all = subst (λ kept. StoresTuples kept all) (sym (c.as_map-2.ensures ∙ c.in_ok-ordered.ensures)) keeps in
    let again : StoresTuples c.as_map-3.result.now.entries all = subst (λ kept. StoresTuples kept all) (sym (c.as_map-3.ensures ∙ c.in_ok-ordered.ensures)) keeps in
    let indexed = c.in_ok-indexed.ensures all ordered in
    let kept = kept_stored (λ map. map.entries) def all c.as_map-3.result.now c.first_map-kept.result.now c.in_ok-indexed.indexed again indexed c.first_map-kept.ensures in
    c.select_range-2.ensures (finite.entries (tuples_by_index def all)) key kept.fit fit edges
    (ap (λ kept. found_in kept c.args.range.now wanted.iterator wanted.offset wanted.limit) (sym kept.same))
