use Rattle.std.proofs.Common.{drop, map, take, ap, ◌∙◌}
use Rattle.mx_schema.specs.Picks.{directed}
use Rattle.mx_space.specs.Selecting.{row_of}
use Rattle.mx_space.proofs.selection.collect_rows.Goals as goal

pub returns : goal.returns
returns c =
    let wanted = c.args.wanted.now in
    let gone = ap (λ l. take wanted.limit (map (row_of c.args.source) l))
    (c.pass_over.ensures ∙ (λ i. drop wanted.offset (directed (c.descends-down.ensures i) (c.scan-entries.ensures i)))) in
    rw gone at c.collect.ensures
