use Rattle.std.proofs.Common.{sym, subst, arith}
use Rattle.std.proofs.lemmas.List.{nil_from_length}
use Rattle.mx_msgpack.specs.Spelling.{AreBytes}
use Rattle.mx_completion.proofs.RangeLaws.{range_of_none, none_behind, range_behind}
use Rattle.mx_completion.proofs.number.number_range.Goals as goal

pub returns-in_default : goal.returns-in_default
returns-in_default c = rw (nil_from_length c.args.bytes.now c.in_default.ensures.cases) range_of_none

pub returns-in_err-digits_behind : goal.returns-in_err-digits_behind
returns-in_err-digits_behind c =
    let parts = c.in-Some.ensures.cases.0 in
    let each = subst AreBytes parts (λ i. omega (arith, c.type_inv.bytes i)) in
    rw (parts, c.from_residual.ensures) (none_behind c.in-Some.leading.now c.in-Some.digits.now each (sym c.in_err-digits_behind.ensures.value))

pub returns : goal.returns
returns c =
    let parts = c.in-Some.ensures.cases.0 in
    let each = subst AreBytes parts (λ i. omega (arith, c.type_inv.bytes i)) in
    rw (parts, c.filled_range.ensures)
    (range_behind c.in-Some.leading.now c.in-Some.digits.now each c.in_ok-digits_behind.field-0 (sym c.in_ok-digits_behind.ensures.value) c.in_ok-digits_behind.ensures.few)
