use Rattle.std.proofs.Common.{rules, ◌≡◌, sym, subst}
use Rattle.std.proofs.lemmas.Bool.{not-true, not-false}
use Rattle.std.proofs.Math.Numerals.{one-add}
use Rattle.std.proofs.lemmas.List.{nil_from_length}
use denote.Enum.Bare.{same_true, same_false}
use Rattle.mx_completion.specs.contracts.leading.Kind.{the_type}
use Rattle.mx_completion.specs.HeadForms.{HasHead}
use Rattle.mx_completion.proofs.HeadLaws.{nothing, no_head, head_cut, head_full}
use Rattle.mx_completion.proofs.head.head_at.Goals as goal

pub returns-in_default-clause-announces : goal.returns-in_default-clause-announces
returns-in_default-clause-announces c = rw (nil_from_length c.args.bytes.now c.in_default.ensures.cases) (nothing c.args.kind c.requires)

pub returns-in_err-leading-clause-announces : goal.returns-in_err-leading-clause-announces
returns-in_err-leading-clause-announces c =
    rw (c.in-Some.ensures.cases.0, c.from_residual.ensures)
    (no_head c.args.kind c.in-Some.byte.now c.in-Some.digits.now (λ leading is same. let none = c.in_err-leading.ensures.exact in absurd cc))

pub returns-then-ne-clause-announces : goal.returns-then-ne-clause-announces
returns-then-ne-clause-announces c =
    let leading = c.in_ok-leading.leading in
    let other = same_false the_type _ _ (not-true _ (sym c.if-ne.ensures)) in
    rw c.in-Some.ensures.cases.0
    (no_head c.args.kind c.in-Some.byte.now c.in-Some.digits.now (λ found is same. let known = c.in_ok-leading.ensures.exact in other cc))

pub returns-then-digits-leading-clause-announces : goal.returns-then-digits-leading-clause-announces
returns-then-digits-leading-clause-announces c =
    let leading = c.in_ok-leading.leading in
    let same : leading.kind ≡ c.args.kind = same_true the_type (search rules) _ _ (not-false _ (sym c.if-ne.ensures)) in
    rw (c.in-Some.ensures.cases.0, ← same, c.padded_number.ensures.exact)
    (head_cut c.in-Some.byte.now leading c.in-Some.digits.now (sym c.in_ok-leading.ensures.exact) (subst HasHead (sym same) c.requires) c.if-digits-leading.true)

pub returns-clause-announces : goal.returns-clause-announces
returns-clause-announces c =
    let leading = c.in_ok-leading.leading in
    let same : leading.kind ≡ c.args.kind = same_true the_type (search rules) _ _ (not-false _ (sym c.if-ne.ensures)) in
    rw (c.in-Some.ensures.cases.0, ← same, c.padded_number.ensures.exact, one-add leading.width)
    (head_full c.in-Some.byte.now leading c.in-Some.digits.now (sym c.in_ok-leading.ensures.exact) (subst HasHead (sym same) c.requires) c.if-digits-leading.false)
