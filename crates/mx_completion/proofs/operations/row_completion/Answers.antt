use Rattle.std.proofs.Common.{◌≡◌, suc, ◌-◌, subst, arith}
use Rattle.mx_completion.proofs.OperationCompletions.{Passed, one_passed, cut_inside, impossible_inside, all_passed}
use Rattle.mx_completion.proofs.operations.row_completion.Goals as goal

pub loop-left-preserved : goal.loop-left-preserved
loop-left-preserved c =
    let one_less : c.loop-left.left ≡ suc (c.loop-left.left - 1) = let some = c.loop-left-test.true in omega arith in
    let passed = subst (λ left. Passed c.args.count c.args.bytes.now left c.loop-left.rest.now) one_less c.loop-left.invariant in
    rw c.split_at.ensures.back (one_passed c.args.count c.args.bytes.now (c.loop-left.left - 1) c.loop-left.rest.now passed c.in-Whole.size c.in-Whole.ensures.completes)

pub returns-in-Missing : goal.returns-in-Missing
returns-in-Missing c =
    let one_less : c.loop-left.left ≡ suc (c.loop-left.left - 1) = let some = c.loop-left-test.true in omega arith in
    let passed = subst (λ left. Passed c.args.count c.args.bytes.now left c.loop-left.rest.now) one_less c.loop-left.invariant in
    cut_inside c.args.count c.args.bytes.now (c.loop-left.left - 1) c.loop-left.rest.now passed c.in-Missing.least c.in-Missing.ensures.completes

pub returns-in-Impossible : goal.returns-in-Impossible
returns-in-Impossible c =
    let one_less : c.loop-left.left ≡ suc (c.loop-left.left - 1) = let some = c.loop-left-test.true in omega arith in
    let passed = subst (λ left. Passed c.args.count c.args.bytes.now left c.loop-left.rest.now) one_less c.loop-left.invariant in
    impossible_inside c.args.count c.args.bytes.now (c.loop-left.left - 1) c.loop-left.rest.now passed c.in-Impossible.ensures.completes

pub returns : goal.returns
returns c =
    let none : c.loop-left.left ≡ 0 = let test = c.loop-left-test.false in omega arith in
    let passed = subst (λ left. Passed c.args.count c.args.bytes.now left c.loop-left.rest.now) none c.loop-left.invariant in
    all_passed c.args.count c.args.bytes.now c.loop-left.rest.now passed
