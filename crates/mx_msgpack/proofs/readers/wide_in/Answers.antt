use Rattle.std.proofs.Common.{ℕ, List, ap, sym, ◌∙◌}
use Rattle.std.specs.Option.{option_map}
use Rattle.mx_msgpack.proofs.UnsignedLaws.{wide_1, wide_2, wide_4, wide_8}
use Rattle.mx_msgpack.proofs.readers.wide_in.Goals as goal

pub returns-in-204 : goal.returns-in-204
returns-in-204 c =
    c.digits_in.ensures
    ∙ ap (option_map (λ (found : ℕ × List ℕ). found.0)) (sym (wide_1 c.args.bytes.now c.in-Some.rest.now c.in-Some.leading.now c.in-Some.ensures.cases.0 c.in-204.is))

pub returns-in-205 : goal.returns-in-205
returns-in-205 c =
    c.digits_in-in-205.ensures
    ∙ ap (option_map (λ (found : ℕ × List ℕ). found.0)) (sym (wide_2 c.args.bytes.now c.in-Some.rest.now c.in-Some.leading.now c.in-Some.ensures.cases.0 c.in-205.is))

pub returns-in-206 : goal.returns-in-206
returns-in-206 c =
    c.digits_in-in-206.ensures
    ∙ ap (option_map (λ (found : ℕ × List ℕ). found.0)) (sym (wide_4 c.args.bytes.now c.in-Some.rest.now c.in-Some.leading.now c.in-Some.ensures.cases.0 c.in-206.is))

pub returns-in-207 : goal.returns-in-207
returns-in-207 c =
    c.digits_in-in-207.ensures
    ∙ ap (option_map (λ (found : ℕ × List ℕ). found.0)) (sym (wide_8 c.args.bytes.now c.in-Some.rest.now c.in-Some.leading.now c.in-Some.ensures.cases.0 c.in-207.is))
