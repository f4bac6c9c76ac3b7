use Rattle.std.proofs.Common.{◌<◌, ◌≤◌, List, length, sym, subst}
use Rattle.mx_key.specs.declared.part.Part.{Part}
use Rattle.mx_key.proofs.ArrayLaws.{few_items, many_items}
use Rattle.mx_key.proofs.ranges.misfit.Goals as goal

pub returns-then-items-parts : goal.returns-then-items-parts
returns-then-items-parts c =
    let many = subst (λ (def : List Part). length def < c.in_ok-items.items.count) c.as_slice-parts.ensures c.if-items-parts.true in
    many_items c.args.def.now c.args.key.now c.in_ok-items.items.count c.in_ok-items.items.bytes.now (sym c.in_ok-items.ensures) many

pub returns : goal.returns
returns c =
    let few = subst (λ (def : List Part). c.in_ok-items.items.count ≤ length def) c.as_slice-parts.ensures c.if-items-parts.false in
    let same = few_items c.args.def.now c.args.key.now c.in_ok-items.items.count c.in_ok-items.items.bytes.now (sym c.in_ok-items.ensures) few in
    rw same (rw c.as_slice-parts.ensures at c.wrong_part.ensures)
