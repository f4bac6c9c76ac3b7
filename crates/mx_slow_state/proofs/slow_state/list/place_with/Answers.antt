use Rattle.std.proofs.Common.{rules, ◌≡◌, ◌<◌, length, get_or}
use Rattle.mx_slow_state.proofs.SlowListLaws.{left_here, left_later}
use Rattle.mx_slow_state.proofs.slow_state.list.place_with.Goals as goal

pub returns-then-eq : goal.returns-then-eq
returns-then-eq c =
    let kept = c.args.kept.now in
    let one = c.one-item.result in
    let within : c.loop-one.place < length kept = search rules in
    let is : one ≡ get_or kept c.loop-one.place one = search rules in
    (within, left_here c.args.key.now kept c.loop-one.place one within is _ (search rules) c.loop-one.invariant.1)

pub loop-one-preserved : goal.loop-one-preserved
loop-one-preserved c =
    let kept = c.args.kept.now in
    let one = c.one-item.result in
    let within : c.loop-one.place < length kept = search rules in
    let is : one ≡ get_or kept c.loop-one.place one = search rules in
    (search rules, left_later c.args.key.now kept c.loop-one.place one within is _ (search rules) c.loop-one.invariant.1)
