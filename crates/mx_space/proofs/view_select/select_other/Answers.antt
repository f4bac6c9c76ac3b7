use Rattle.std.proofs.Common.{map, ne_eqb, sym, ap, ◌∙◌, subst}
use Rattle.std.specs.FinMap as finite
use Rattle.std.specs.List.{filter}
use Rattle.std.specs.Option.{option_copied}
use Rattle.mx_key.specs.Comparable.{holds}
use Rattle.mx_schema.specs.Picks.{directed, tuples_by_index}
use Rattle.mx_schema.specs.Stored.{stored_tuple}
use Rattle.mx_entries.specs.KeptEntries.{StoresEntries, kept_entries}
use Rattle.mx_entries.specs.OwnWrites.{under}
use Rattle.mx_space.proofs.ShownRowLaws.{entries_kept, index_rows_are}
use Rattle.mx_space.proofs.OverlayLaws.{index_of_own, stores_own}
use Rattle.mx_space.proofs.view_select.select_other.Goals as goal

pub returns : goal.returns
returns c = λ schema all written long key stores writes whole whole_seen there have one_each fit short edges apart fits.
    let def = c.args.def.now in
    let space = c.args.space.now in
    let over = c.args.over.now in
    let wanted = c.args.wanted.now in
    let range = c.args.range.now in
    let own = c.own.result.now in
    let stored_is = c.as_tree.ensures ∙ c.in_ok-stored.ensures in
    let own_is = c.as_tree-2.ensures ∙ c.in_ok-own.ensures in
    let keeps : StoresEntries c.in-Some.stored.now (kept_entries def all) =
    entries_kept schema space all def stores there apart c.in-Some.stored.now (ap option_copied (sym c.in-Some.is) ∙ c.index.ensures) in
    let keeps_own : StoresEntries c.in-Some-index.own.now (kept_entries def (under written finite.empty)) =
    entries_kept schema own (under written finite.empty) def (stores_own schema over written own writes c.own.ensures)
    (index_of_own schema space over all written def.id.0 def own stores writes c.own.ensures there) apart c.in-Some-index.own.now (ap option_copied (sym c.in-Some-index.is) ∙ c.index-2.ensures) in
    let rows = c.index_rows-rows.ensures
    ∙ index_rows_are schema over written writes all space.tuples.entries stores.holds.keeps def (ne_eqb def.id.0 0 apart) long whole whole_seen have one_each
    c.as_tree.result.now c.as_tree-2.result.now (subst (λ l. StoresEntries l (kept_entries def all)) (sym stored_is) keeps)
    (subst (λ l. StoresEntries l (kept_entries def (under written finite.empty))) (sym own_is) keeps_own) range c.descends-down.result wanted.iterator key fit short edges
    ∙ ap (λ down. directed down (filter (λ entry. holds range entry.0) (map stored_tuple (finite.entries (tuples_by_index def (under written all)))))) c.descends-down.ensures in
    c.select_rows.ensures (finite.entries (tuples_by_index def (under written all))) key fits fit edges rows
