use Rattle.std.proofs.Common.{false, ap, ◌∙◌}
use Rattle.std.specs.List.{filter}
use Rattle.mx_schema.specs.Picks.{directed}
use Rattle.mx_entries.specs.Windows.{indexed_row}
use Rattle.mx_space.specs.ShownRows.{is_shown}
use Rattle.mx_entries.specs.MergedRows.{merged}
use Rattle.mx_space.proofs.view_select.index_rows.Goals as goal

pub returns : goal.returns
returns c =
    let down = c.args.down in
    let over = c.args.over.now in
    let tuples = ap (λ s. s.entries) c.tuples.ensures in
    let own_tuples = ap (λ s. s.entries) c.tuples-2.ensures ∙ ap (λ s. s.tuples.entries) c.own.ensures in
    λ i. merged down (indexed_row c.args.unique (tuples i)) (indexed_row c.args.unique (own_tuples i)) (filter (is_shown over false) (directed down (c.scan.ensures i)))
    (directed down (c.scan-2.ensures i))
