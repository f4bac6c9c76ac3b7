use Rattle.std.proofs.Common.{sym, arith}
use Rattle.mx_completion.proofs.UnsignedCompletions.{stands_within, stands_whole, stands_too_low, becomes_none, becomes_too_low, becomes_longer, becomes_more}
use Rattle.mx_completion.proofs.number.unsigned_completion.Goals as goal

pub returns-then-number-least : goal.returns-then-number-least
returns-then-number-least c = stands_too_low c.args.bytes.now (c.in-Some.number, c.in-Some.rest.now) (sym c.in-Some.ensures) c.args.least c.if-number-least.true

pub overflow_sub-result : goal.overflow_sub-result
overflow_sub-result c = stands_within c.args.bytes.now (c.in-Some.number, c.in-Some.rest.now) (sym c.in-Some.ensures)

pub returns-in-Some : goal.returns-in-Some
returns-in-Some c = stands_whole c.args.bytes.now (c.in-Some.number, c.in-Some.rest.now) (sym c.in-Some.ensures) c.args.least c.if-number-least.false

pub returns-in_default-number_range : goal.returns-in_default-number_range
returns-in_default-number_range c =
    becomes_none c.args.bytes.now (λ i. omega (arith, c.type_inv.bytes i)) (sym c.in_default.ensures) c.args.least c.in_default-number_range.ensures

pub returns-then-range-least : goal.returns-then-range-least
returns-then-range-least c =
    becomes_too_low c.args.bytes.now (λ i. omega (arith, c.type_inv.bytes i)) (sym c.in_default.ensures) c.args.least c.in-Some-number_range.range c.in-Some-number_range.ensures
    c.if-range-least.true

pub overflow_sub-result-2 : goal.overflow_sub-result-2
overflow_sub-result-2 c =
    rw c.spelling_size.ensures
    (becomes_longer c.args.bytes.now (λ i. omega (arith, c.type_inv.bytes i)) (sym c.in_default.ensures) c.args.least c.in-Some-number_range.range c.in-Some-number_range.ensures
    c.requires c.if-range-least.false)

pub returns : goal.returns
returns c =
    rw c.spelling_size.ensures
    (becomes_more c.args.bytes.now (λ i. omega (arith, c.type_inv.bytes i)) (sym c.in_default.ensures) c.args.least c.in-Some-number_range.range c.in-Some-number_range.ensures
    c.requires c.if-range-least.false)
