use Rattle.std.proofs.Common.{◌++◌, map, ap, ◌∙◌, append_assoc}
use Rattle.mx_space.specs.OwnCommit.{put_change, puts_in, removals_in}
use Rattle.mx_entries.specs.TupleMaps.{TupleEntries}
use Rattle.mx_space.proofs.own_changes.add_changes.Goals as goal

pub returns-clause-adds : goal.returns-clause-adds
returns-clause-adds c =
    let space = c.args.space.0 in
    let over = c.args.over.now in
    let puts = c.as_map-2.ensures ∙ c.in_ok-puts.ensures ∙ ap (λ (t : TupleEntries). t.entries) (c.tuples.ensures ∙ ap (λ s. s.tuples) c.own.ensures) in
    c.in_ok-add_removals.ensures.adds
    ∙ ap (λ l. l ++ removals_in space over) (c.in_ok-add_puts.ensures.adds ∙ (λ i. c.reserve.ensures i ++ map (put_change space) (puts i)))
    ∙ append_assoc c.args.changes.now (puts_in space over) (removals_in space over)
