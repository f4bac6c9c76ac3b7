use Rattle.std.proofs.Common.{◌≡◌, length, map, Some, inr, refl, sym, ap, ◌∙◌, subst}
use Rattle.std.specs.FinMap as finite
use Rattle.std.specs.Option.{option_map}
use Rattle.mx_key.specs.declared.edge.Edge.TheVariants as edge
use Rattle.mx_schema.specs.Catalogues.{index_with}
use Rattle.mx_schema.specs.Picks.{tuples_by_index}
use Rattle.mx_schema.specs.Stored.{stored_tuple}
use Rattle.mx_schema.proofs.StoredLaws.{primary_index}
use Rattle.mx_entries.specs.OwnWrites.{under}
use Rattle.mx_entries.specs.Scans.{Selects}
use Rattle.mx_entries.specs.Windows.{keys_read}
use Rattle.mx_entries.specs.TupleMaps.{under_key}
use Rattle.mx_entries.proofs.IndexScanLaws.{array_short}
use Rattle.mx_space.proofs.ShownRowLaws.{first_fits, seen_fits, seen_long}
use Rattle.mx_entries.proofs.WindowLaws.{all_as_long}
use Rattle.mx_entries.proofs.SeenLaws.{each_own}
use Rattle.mx_entries.proofs.WholeKeyLaws.{row_stored, whole_bytes, whole_found}
use Rattle.mx_entries.proofs.FoundLaws.{keys_long}
use Rattle.mx_space.proofs.view_select.select_seen.Goals as goal

pub returns : goal.returns
returns c = λ schema all written long key stores writes whole whole_seen there have one_each each_stored fits fit edges.
    let def = c.args.def.now in
    let wanted = c.args.wanted.now in
    c.select_other.ensures schema all written long key stores writes whole whole_seen there have one_each fit (array_short def.key wanted.key.now key fits) edges c.if-def-eq0.false
    (seen_fits schema c.args.space.now c.args.over.now all written def long stores writes whole whole_seen there have one_each)

pub returns-in-Some : goal.returns-in-Some
returns-in-Some c = λ schema all written long key stores writes whole whole_seen there have one_each each_stored fits fit edges.
    let def = c.args.def.now in
    let space = c.args.space.now in
    let over = c.args.over.now in
    let wanted = c.args.wanted.now in
    let seen = under written all in
    let kept = map stored_tuple (finite.entries seen) in
    let range = c.args.range.now in
    let bytes = c.in-Some.key.now in
    let (first, low, exact, lengths) = c.in-Some.ensures in
    let is = whole_bytes wanted.iterator key exact range bytes edges low in
    let fit_seen = first_fits schema space over all written def long stores writes whole whole_seen there have one_each first in
    let long_seen = all_as_long key (length def.key) (lengths key fits) (finite.entries seen)
    (seen_long schema space over all written def stores writes (subst (λ n. index_with n space.schema.indexes ≡ Some def) first there)) in
    let row = c.shown_row-row.ensures schema all written key stores writes fit is ∙ sym (row_stored kept seen key bytes (record { same = refl; fit = fit_seen }) fit is) in
    let read = c.select_row.ensures (finite.entries seen) key fit_seen fit edges
    (λ more. whole_found seen fit_seen kept refl wanted.iterator key fit long_seen exact range bytes edges low wanted.offset wanted.limit more _ row) in
    subst (λ t. Selects (finite.entries t) wanted key c.select_row.new.found (keys_read c.select_row.result c.select_row.new.range)) (sym (primary_index def seen first)) read

pub returns-in-Some-whole_key : goal.returns-in-Some-whole_key
returns-in-Some-whole_key c = λ schema all written long key stores writes whole whole_seen there have one_each each_stored fits fit edges.
    let def = c.args.def.now in
    let space = c.args.space.now in
    let over = c.args.over.now in
    let wanted = c.args.wanted.now in
    let seen = under written all in
    let indexed = tuples_by_index def seen in
    let kept = map stored_tuple (finite.entries indexed) in
    let range = c.args.range.now in
    let apart = c.if-def-eq0.false in
    let (unique, low, exact, lengths) = c.in-Some-whole_key.ensures in
    let bytes = c.in_ok-key.key in
    let same : bytes ≡ c.in-Some-whole_key.key.now = c.in_ok-key.ensures.cases in
    let low_is : range.low ≡ edge.Inclusive bytes = low ∙ ap edge.Inclusive (sym same) in
    let is = whole_bytes wanted.iterator key exact range bytes edges low_is in
    let fit_seen = seen_fits schema space over all written def long stores writes whole whole_seen there have one_each in
    let long_seen = all_as_long key (length def.key) (lengths key fits) (finite.entries indexed) (keys_long def unique seen (one_each unique) have apart) in
    let own_whole = each_own (λ entry. length entry.0 ≡ long) written all whole_seen in
    let held = c.in_ok-tuple.ensures schema all written long key stores writes whole own_whole there (each_stored unique) (inr (unique, one_each unique, have)) apart fit is in
    let row = c.keyed_row.ensures ∙ ap (option_map (under_key bytes)) held ∙ sym (row_stored kept indexed key bytes (record { same = refl; fit = fit_seen }) fit is) in
    c.select_row-in-Some-whole_key.ensures (finite.entries indexed) key fit_seen fit edges
    (λ more. whole_found indexed fit_seen kept refl wanted.iterator key fit long_seen exact range bytes edges low_is wanted.offset wanted.limit more _ row)

pub returns-then-def-eq0 : goal.returns-then-def-eq0
returns-then-def-eq0 c = λ schema all written long key stores writes whole whole_seen there have one_each each_stored fits fit edges.
    let def = c.args.def.now in
    let wanted = c.args.wanted.now in
    let seen = under written all in
    let first = c.if-def-eq0.true in
    let fit_seen = first_fits schema c.args.space.now c.args.over.now all written def long stores writes whole whole_seen there have one_each first in
    let read = c.select_first.ensures schema all written key stores writes fit edges fit_seen in
    subst (λ t. Selects (finite.entries t) wanted key c.select_first.new.found (keys_read c.select_first.result c.select_first.new.range)) (sym (primary_index def seen first)) read
