use Rattle.std.proofs.Common.{rules, ◌≡◌, ◌≤◌, ◌<◌, ◌^◌, ℕ, length, take, ap, ◌∙◌, to_z, arith}
use Rattle.std.specs.Int.{w128}
use Rattle.byteorder.specs.Endian.{big_number, twos_complement}
use Rattle.mx_msgpack.proofs.SignedLaws.{IsLimit, limit_1, limit_2, limit_4, limit_8, signed_low, signed_high, signed_is}
use Rattle.mx_msgpack.proofs.head.signed_head.Goals as goal
use Rattle.mx_msgpack.proofs.head.signed_head.Goals.{in-1, in-2, in-4, in_default, then-number-limit, else-number-limit}

pub returns-clause-exact : goal.returns-clause-exact
returns-clause-exact c =
    let limit : IsLimit c.args.width (to_z w128 c.match-width.limit-bits) =
    elim c.match-width.branch [
      | in-1 w ↦ limit_1 c.args.width _ w.in-1.is w.limit-is
      | in-2 w ↦ limit_2 c.args.width _ w.in-2.is w.limit-is
      | in-4 w ↦ limit_4 c.args.width _ w.in-4.is w.limit-is
      | in_default w ↦ limit_8 c.args.width _ (search rules) w.limit-is
    ] in
    let number = c.number_of.result in
    let fits : number < 2 ^ 64 = omega (arith, c.number_of.type_inv) in
    let signed : to_z w128 c.if-number-limit.signed-bits ≡ twos_complement c.args.width number =
    elim c.if-number-limit.branch [
      | then-number-limit v ↦ signed_low c.args.width number _ _ c.from-number.result limit fits c.from-number.ensures v.if-number-limit.true v.signed-is
      | else-number-limit v ↦ signed_high c.args.width number _ _ c.from-number.result limit fits c.from-number.ensures v.if-number-limit.false v.signed-is
    ] in
    let long : c.args.width ≤ length c.args.rest.now = omega arith in
    let whole : length c.split_at.result.0.now ≡ c.args.width = c.split_at.ensures.front_len in
    let same : number ≡ big_number c.args.width (take c.args.width c.args.rest.now) =
    c.number_of.ensures ∙ ap (λ (n : ℕ). big_number n c.split_at.result.0.now) whole ∙ ap (big_number c.args.width) c.split_at.ensures.front in
    signed_is c.args.width c.args.rest.now c.split_at.result.1.now _ long (signed ∙ ap (twos_complement c.args.width) same) c.split_at.ensures.back
