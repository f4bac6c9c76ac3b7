use Rattle.std.proofs.Common.{arith}
use Rattle.mx_completion.proofs.MapHeadLaws.{begins_inside, cut_too_many, head_begun, no_map, too_many}
use Rattle.mx_completion.proofs.map.begun_map.Goals as goal

pub returns-in_err-count : goal.returns-in_err-count
returns-in_err-count c = rw c.from_residual.ensures (no_map c.args.bytes.now c.in_err-count.ensures.announces)

pub returns-then-count : goal.returns-then-count
returns-then-count c = cut_too_many c.args.bytes.now c.in-Cut.count c.in-Cut.missing (rw c.in-Cut.is at c.in_ok-count.ensures.announces) c.if-count.true

pub returns-then-count-2 : goal.returns-then-count-2
returns-then-count-2 c = too_many c.args.bytes.now c.in-Full.count c.in-Full.size (rw c.in-Full.is at c.in_ok-count.ensures.announces) c.if-count-2.true

pub returns-else-count : goal.returns-else-count
returns-else-count c =
    head_begun c.args.fields c.args.bytes.now c.in-Cut.count c.in-Cut.missing c.requires.few (λ i. omega (arith, c.type_inv.bytes i)) (rw c.in-Cut.is at c.in_ok-count.ensures.announces)
    (omega (arith, c.if-count.false))

pub returns-else-count-2 : goal.returns-else-count-2
returns-else-count-2 c =
    begins_inside c.args.bytes.now c.in-Full.count c.in-Full.size (rw c.in-Full.is at c.in_ok-count.ensures.announces) (omega (arith, c.if-count-2.false)) c.args.fields c.begun_pairs.result
    (rw (← c.split_at.ensures.back) (c.begun_pairs.ensures c.args.fields))
