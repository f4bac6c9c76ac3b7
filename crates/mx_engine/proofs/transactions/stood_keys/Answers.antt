use Rattle.std.proofs.Common.{rules, subst}
use Rattle.mx_engine.proofs.CommitWorkLaws.{StoodPart, none_left, stood_first, stood_more, stood_whole}
use Rattle.mx_engine.proofs.transactions.stood_keys.Goals as goal

pub loop-first-init : goal.loop-first-init
loop-first-init c = λ before own holds each. stood_first before own c.args.changed.now c.new-keys.result c.new-keys.ensures each

pub loop-first-preserved : goal.loop-first-preserved
loop-first-preserved c = λ before own holds each.
    stood_more before own c.in-Some.first.now c.in-Some.others.now c.loop-first.keys c.touch_stood.new.keys
    (subst (λ left. StoodPart before own left c.loop-first.keys) (search rules) (c.loop-first.invariant before own holds each))
    (λ key fit is. c.in_ok-touch_stood.ensures.adds before key holds fit is)

pub returns : goal.returns
returns c = λ before own holds each.
    stood_whole before own c.loop-first.keys (subst (λ left. StoodPart before own left c.loop-first.keys) (none_left c.loop-first.left.now c.in_default.ensures.cases) (c.loop-first.invariant before own holds each))
