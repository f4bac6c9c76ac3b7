use Rattle.std.proofs.Common.{◌≡◌, true, List, map, ap, ◌∙◌}
use Rattle.std.specs.FinMap as finite
use Rattle.std.specs.List.{filter}
use Rattle.mx_key.specs.Comparable.{holds}
use Rattle.mx_key.specs.Ranges.{descends}
use Rattle.mx_schema.specs.Picks.{directed}
use Rattle.mx_schema.specs.Stored.{StoredTuple, stored_tuple}
use Rattle.mx_space.specs.declared.pick.Source.TheVariants as source
use Rattle.mx_entries.specs.OwnWrites.{under}
use Rattle.mx_space.specs.Selecting.{row_of}
use Rattle.mx_space.specs.ShownRows.{is_shown, rows_left}
use Rattle.mx_entries.specs.MergedRows.{merged}
use Rattle.mx_entries.specs.TupleMaps.{TupleEntries}
use Rattle.mx_space.proofs.ShownRowLaws.{first_rows_are}
use Rattle.mx_space.proofs.view_select.select_first.Goals as goal

abbrev Kept : Type 0
Kept = List StoredTuple

pub returns : goal.returns
returns c = λ schema all written key stores writes fit edges fits.
    let wanted = c.args.wanted.now in
    let range = c.args.range.now in
    let over = c.args.over.now in
    let down = descends wanted.iterator in
    let stored = c.as_map.ensures ∙ c.in_ok-stored.ensures ∙ ap (λ (t : TupleEntries). t.entries) c.tuples.ensures in
    let own = c.as_map-2.ensures ∙ c.in_ok-own.ensures ∙ ap (λ (t : TupleEntries). t.entries) (c.tuples-2.ensures ∙ ap (λ s. s.tuples) c.own.ensures) in
    let held : Kept → Kept = filter (λ entry. holds range entry.0) in
    let rows : rows_left c.first_rows-rows.result ≡ directed down (held (map stored_tuple (finite.entries (under written all)))) =
    c.first_rows-rows.ensures
    ∙ (λ i. merged (c.descends-down.ensures i) (row_of source.Entries) (row_of source.Entries) (filter (is_shown over true) (directed (c.descends-down.ensures i) (held (stored i))))
    (directed (c.descends-down.ensures i) (held (own i))))
    ∙ first_rows_are schema over written writes all c.args.space.now.tuples.entries stores.holds.keeps range down in
    c.select_rows.ensures (finite.entries (under written all)) key fits fit edges rows
