use Rattle.std.proofs.Common.{rules, ◌≡◌, ◌<◌, length, get_or, sym, ◌∙◌}
use Rattle.mx_slow_state.proofs.SlowListLaws.{found_here, found_later}
use Rattle.mx_slow_state.proofs.slow_state.list.find.Goals as goal

pub returns-then-eq-clause-tuple : goal.returns-then-eq-clause-tuple
returns-then-eq-clause-tuple c =
    let kept = c.args.kept.now in
    let one = c.one-item.result in
    let within : c.loop-one.one-index < length kept = search rules in
    let is : one ≡ get_or kept c.loop-one.one-index one = search rules in
    sym (found_here c.args.key.now kept c.loop-one.one-index one within is (search rules)) ∙ c.loop-one.invariant

pub loop-one-preserved : goal.loop-one-preserved
loop-one-preserved c =
    let kept = c.args.kept.now in
    let one = c.one-item.result in
    let within : c.loop-one.one-index < length kept = search rules in
    let is : one ≡ get_or kept c.loop-one.one-index one = search rules in
    found_later c.args.key.now kept c.loop-one.one-index one within is (search rules) ∙ c.loop-one.invariant
