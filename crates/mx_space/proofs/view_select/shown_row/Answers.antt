use Rattle.std.proofs.Common.{sym, ap, ◌∙◌}
use Rattle.std.specs.BTreeMap.{is_at}
use Rattle.std.specs.Cmp.Lexicographic.{slice_cmp}
use Rattle.std.specs.FinMap as finite
use Rattle.std.specs.Map.{lookup_entry}
use Rattle.std.specs.Option.{option_map}
use Rattle.std.specs.Ordering.{nat_cmp}
use Rattle.mx_entries.specs.OwnWrites.{under}
use Rattle.mx_entries.specs.TupleMaps.{TupleEntries, under_key}
use Rattle.mx_space.proofs.OverlayLaws.{hides_written}
use Rattle.mx_entries.proofs.SeenLaws.{not_some, not_written, was_written}
use Rattle.mx_entries.proofs.WholeKeyLaws.{row_stored}
use Rattle.mx_space.proofs.view_select.shown_row.Goals as goal

pub returns-then-hides : goal.returns-then-hides
returns-then-hides c = λ schema all written wanted stores writes fit is.
    let key = c.args.key.now in
    let hidden = sym (hides_written schema c.args.over.now written wanted key writes fit is) ∙ sym c.hides.ensures ∙ c.if-hides.true in
    c.stored_row.ensures
    ∙ ap (λ (t : TupleEntries). lookup_entry (is_at (slice_cmp nat_cmp key)) t.entries) (c.tuples.ensures ∙ ap (λ s. s.tuples) c.own.ensures)
    ∙ row_stored c.args.over.now.own.tuples.entries (under written finite.empty) wanted key writes.own.holds.keeps fit is
    ∙ ap (option_map (under_key key)) (was_written written all wanted hidden)

pub returns : goal.returns
returns c = λ schema all written wanted stores writes fit is.
    let key = c.args.key.now in
    let shown = sym (hides_written schema c.args.over.now written wanted key writes fit is) ∙ sym c.hides.ensures ∙ c.if-hides.false in
    c.stored_row-2.ensures
    ∙ ap (λ (t : TupleEntries). lookup_entry (is_at (slice_cmp nat_cmp key)) t.entries) c.tuples-2.ensures
    ∙ row_stored c.args.space.now.tuples.entries all wanted key stores.holds.keeps fit is
    ∙ ap (option_map (under_key key)) (sym (not_written written all wanted (not_some (finite.get written wanted) shown)))
