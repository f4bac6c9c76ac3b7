use Rattle.std.proofs.Common.{rules, ◌<◌, length, ne_eqb, sym, ap, ◌∙◌}
use Rattle.std.specs.Prelude.{◌++◌, drop, take}
use Rattle.mx_entries.specs.EntryChanges.{kept_without}
use Rattle.mx_entries.proofs.AlteredLaws.{passed_here}
use Rattle.mx_space.proofs.places.+remove_indexes.Goals as goal

pub returns-else-def-id : goal.returns-else-def-id
returns-else-def-id t c =
    let id = c.args.id.0 in
    let place = c.args.place in
    let kept = c.args.indexes.now.items in
    let within : place < length kept = search rules in
    c.remove_indexes-else-def-id.ensures ∙ passed_here id c.in-Some.def.now c.in-Some.others.now (ne_eqb c.in-Some.def.now.id.0 id c.if-def-id.false) place kept within
    ∙ ap (λ defs. take place kept ++ kept_without id defs (drop place kept)) (sym c.in-Some.ensures.cases.0)
