use Rattle.std.proofs.Common.{◌≡◌, ◌++◌, List, ℕ, length, refl, ap, inl, subst, ◌∙◌}
use Rattle.std.proofs.lemmas.Result.{err_from_is_err_and}
use Rattle.mx_key.specs.declared.part.Part.{Part}
use Rattle.mx_key.specs.Comparable.{comparable_of}
use Rattle.mx_key.proofs.ArrayLaws.{as_many_items, other_items, key_fault}
use Rattle.mx_key.proofs.ranges.whole_key.Goals as goal

pub returns-then-items-parts : goal.returns-then-items-parts
returns-then-items-parts c =
    let items = c.known_array-items.result in
    let other = subst (λ (def : List Part). items.count ≡ length def → ⊥) c.as_slice-parts.ensures c.if-items-parts.true in
    inl (_, refl, other_items c.args.def.now c.args.key.now items.count items.bytes.now c.known_array-items.ensures other)

pub returns-in_err-write_items : goal.returns-in_err-write_items
returns-in_err-write_items c =
    let items = c.known_array-items.result in
    let many = subst (λ (def : List Part). items.count ≡ length def) c.as_slice-parts.ensures c.if-items-parts.false in
    let same = as_many_items c.args.def.now c.args.key.now items.count items.bytes.now c.known_array-items.ensures many in
    let told = rw c.as_slice-parts.ensures at c.in_err-write_items.ensures in
    let p = err_from_is_err_and c.from_residual.result c.from_residual.ensures.1 in
    rw (p.1, p.2) (key_fault _ _ _ same told)

pub returns : goal.returns
returns c =
    let items = c.known_array-items.result in
    let many = subst (λ (def : List Part). items.count ≡ length def) c.as_slice-parts.ensures c.if-items-parts.false in
    let same = as_many_items c.args.def.now c.args.key.now items.count items.bytes.now c.known_array-items.ensures many in
    let written = rw c.as_slice-parts.ensures at c.in_ok-write_items.ensures in
    let bytes = written.3 ∙ ap (λ (l : List ℕ). l ++ comparable_of written.0) c.new-bytes.ensures in
    (written.0, same ∙ written.1, written.2, bytes)
