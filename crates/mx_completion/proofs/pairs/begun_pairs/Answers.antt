use Rattle.std.proofs.Common.{arith}
use Rattle.mx_completion.proofs.CutPairLaws.{key_here, never_here, none_left, passed_one, value_here}
use Rattle.mx_completion.proofs.pairs.begun_pairs.Goals as goal
use Rattle.mx_completion.proofs.pairs.begun_pairs.Goals.{then-any, else-any}

pub returns-in-InKey : goal.returns-in-InKey
returns-in-InKey c =
    key_here c.args.pairs.now c.args.count c.loop-passed.passed c.loop-passed.rest.now c.loop-passed.invariant c.loop-passed-test.true c.in-InKey.any c.if-any.result
    (λ i. omega (arith, c.type_inv.pairs i)) (rw c.in-InKey.is at c.next_pair.ensures)
    (elim c.if-any.branch [
      | then-any w ↦ rw w.if-any.true w.result-is
      | else-any w ↦ rw w.if-any.false w.result-is
    ])

pub returns-in-InValue : goal.returns-in-InValue
returns-in-InValue c =
    value_here c.args.pairs.now c.args.count c.loop-passed.passed c.loop-passed.rest.now c.loop-passed.invariant c.loop-passed-test.true c.in-InValue.key c.in-InValue.begun.now _
    (rw c.in-InValue.is at c.next_pair.ensures) c.cut_of.ensures

pub returns-in-Never : goal.returns-in-Never
returns-in-Never c = λ fields.
    never_here c.args.pairs.now c.args.count c.loop-passed.passed c.loop-passed.rest.now c.loop-passed.invariant c.loop-passed-test.true
    (rw c.in-Never.is at c.next_pair.ensures)

pub loop-passed-preserved : goal.loop-passed-preserved
loop-passed-preserved c =
    let (key, value, parts, k, v) = rw c.in-Whole.is at c.next_pair.ensures in
    passed_one c.args.pairs.now c.loop-passed.passed c.loop-passed.rest.now key value c.in-Whole.others.now c.loop-passed.invariant parts k v

pub returns : goal.returns
returns c = λ fields.
    none_left c.args.pairs.now c.args.count c.loop-passed.passed c.loop-passed.rest.now c.loop-passed.invariant (omega (arith, c.loop-passed-test.false, c.loop-passed.auto.passed-end))
