use Rattle.std.proofs.Common.{◌≡◌, length, map, ne_eqb, refl, sym, ◌∙◌, subst}
use Rattle.std.specs.FinMap as finite
use Rattle.mx_schema.specs.Picks.{tuples_by_index}
use Rattle.mx_schema.specs.Stored.{stored_tuple}
use Rattle.mx_entries.specs.KeptEntries.{StoresEntries, kept_entries}
use Rattle.mx_entries.proofs.FoundLaws.{leads_once_by, keys_long}
use Rattle.mx_entries.proofs.IndexScanLaws.{array_short, index_fits, rows_are_found}
use Rattle.mx_entries.proofs.WindowLaws.{all_as_long}
use Rattle.mx_entries.proofs.WholeKeyLaws.{whole_bytes, whole_found}
use Rattle.mx_entries.proofs.WholeRowLaws.{fits as fits_of, row_found}
use Rattle.mx_space.proofs.space.Space.select_by.Goals as goal

pub returns-in-Some : goal.returns-in-Some
returns-in-Some c = λ schema all long key stores whole there apart have one_each kept fits fit edges.
    let def = c.args.def.now in
    let space = c.args.self.now in
    let wanted = c.args.wanted.now in
    let range = c.args.range.now in
    let index = c.args.index.now in
    let (unique, low, exact, lengths) = c.in-Some.ensures in
    let bytes = c.in-Some.key.now in
    let is = whole_bytes wanted.iterator key exact range bytes edges low in
    let each = one_each unique in
    let row = row_found def unique all each have long whole apart index kept key fit bytes is (λ row. row.0.now) (λ row. row.1.now) c.in_ok-row.row space.tuples.entries stores.holds.keeps
    (c.in_ok-row.ensures (leads_once_by def unique all each have long whole key fit index kept bytes is)) in
    let indexed = tuples_by_index def all in
    c.select_row.ensures (finite.entries indexed) key (index_fits def all long whole (ne_eqb def.id.0 0 apart) have one_each index kept) fit edges
    (λ more. whole_found indexed (fits_of def unique all each have long whole apart index kept) (map stored_tuple (finite.entries indexed)) refl wanted.iterator key fit
    (all_as_long key (length def.key) (lengths key fits) (finite.entries indexed) (keys_long def unique all each have apart))
    exact range bytes edges low wanted.offset wanted.limit more _ row)

pub returns : goal.returns
returns c = λ schema all long key stores whole there apart have one_each kept fits fit edges.
    let def = c.args.def.now in
    let wanted = c.args.wanted.now in
    let other = ne_eqb def.id.0 0 apart in
    let ordered : c.as_tree.result.now ≡ c.args.index.now = c.as_tree.ensures ∙ c.in_ok-ordered.ensures in
    let sorted : StoresEntries c.as_tree.result.now (kept_entries def all) = subst (λ l. StoresEntries l (kept_entries def all)) (sym ordered) kept in
    c.select_entries.ensures (finite.entries (tuples_by_index def all)) key
    (index_fits def all long whole other have one_each c.args.index.now kept) fit edges
    (rows_are_found def all long whole other have one_each c.as_tree.result.now sorted c.args.self.now.tuples.entries stores.holds.keeps wanted.iterator key fit
    (array_short def.key wanted.key.now key fits) c.args.range.now edges wanted.offset wanted.limit)
