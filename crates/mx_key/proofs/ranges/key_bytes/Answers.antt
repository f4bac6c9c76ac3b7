use Rattle.std.proofs.Common.{◌<◌, ◌≤◌, ◌++◌, List, ℕ, length, ap, sym, subst, ◌∙◌}
use Rattle.mx_key.specs.declared.part.Part.{Part}
use Rattle.mx_key.specs.Comparable.{comparable_of}
use Rattle.mx_key.proofs.ArrayLaws.{few_items, many_items, same_key, no_misfit}
use Rattle.mx_key.proofs.ranges.key_bytes.Goals as goal

pub returns-then-items-parts : goal.returns-then-items-parts
returns-then-items-parts c fitting e =
    let many = subst (λ (def : List Part). length def < c.in-Some.items.count) c.as_slice-parts.ensures c.if-items-parts.true in
    let fails = many_items c.args.def.now c.args.key.now c.in-Some.items.count c.in-Some.items.bytes.now (sym c.in-Some.ensures) many in
    absurd (cc (e, fails))

pub returns-in-Ok : goal.returns-in-Ok
returns-in-Ok c fitting e =
    let few = subst (λ (def : List Part). c.in-Some.items.count ≤ length def) c.as_slice-parts.ensures c.if-items-parts.false in
    let same = few_items c.args.def.now c.args.key.now c.in-Some.items.count c.in-Some.items.bytes.now (sym c.in-Some.ensures) few in
    let written = rw c.as_slice-parts.ensures at c.in-Ok.ensures in
    written.3 ∙ ap (λ (l : List ℕ). l ++ comparable_of written.0) c.new-bytes.ensures ∙ ap comparable_of (same_key written.0 fitting _ written.1 (sym same ∙ e))

pub returns-in-Err-Misfit : goal.returns-in-Err-Misfit
returns-in-Err-Misfit c fitting e =
    let few = subst (λ (def : List Part). c.in-Some.items.count ≤ length def) c.as_slice-parts.ensures c.if-items-parts.false in
    let same = few_items c.args.def.now c.args.key.now c.in-Some.items.count c.in-Some.items.bytes.now (sym c.in-Some.ensures) few in
    let told = rw c.as_slice-parts.ensures at c.in-Err-Misfit.ensures in
    let none = no_misfit fitting _ c.in-Err-Misfit.field-0 (sym same ∙ e) told in
    absurd (cc (none, c.in-Err-Misfit.field-0-is))
