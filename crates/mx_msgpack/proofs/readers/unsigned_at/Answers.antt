use Rattle.std.proofs.Common.{Some, ap, sym, ◌∙◌, arith}
use Rattle.mx_msgpack.proofs.UnsignedLaws.{small, wide_1, wide_2, wide_4, wide_8}
use Rattle.mx_msgpack.proofs.readers.unsigned_at.Goals as goal

pub returns-in-0-to-127 : goal.returns-in-0-to-127
returns-in-0-to-127 c =
    ap (λ n. Some (n, c.in-Some.rest.now)) c.from.ensures
    ∙ sym (small c.args.bytes.now c.in-Some.rest.now c.in-Some.leading.now c.in-Some.ensures.cases.0 (omega arith))

pub returns-in-204 : goal.returns-in-204
returns-in-204 c = c.wide_at.ensures ∙ sym (wide_1 c.args.bytes.now c.in-Some.rest.now c.in-Some.leading.now c.in-Some.ensures.cases.0 c.in-204.is)

pub returns-in-205 : goal.returns-in-205
returns-in-205 c =
    c.wide_at-in-205.ensures ∙ sym (wide_2 c.args.bytes.now c.in-Some.rest.now c.in-Some.leading.now c.in-Some.ensures.cases.0 c.in-205.is)

pub returns-in-206 : goal.returns-in-206
returns-in-206 c =
    c.wide_at-in-206.ensures ∙ sym (wide_4 c.args.bytes.now c.in-Some.rest.now c.in-Some.leading.now c.in-Some.ensures.cases.0 c.in-206.is)

pub returns-in-207 : goal.returns-in-207
returns-in-207 c =
    c.wide_at-in-207.ensures ∙ sym (wide_8 c.args.bytes.now c.in-Some.rest.now c.in-Some.leading.now c.in-Some.ensures.cases.0 c.in-207.is)
