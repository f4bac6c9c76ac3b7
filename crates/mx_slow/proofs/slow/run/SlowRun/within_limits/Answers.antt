use Rattle.std.proofs.Common.{sym, ◌∙◌}
use Rattle.mx_slow.proofs.SlowRunLaws.{limits_kept, limits_none, limits_refused}
use Rattle.mx_slow.proofs.slow.run.SlowRun.within_limits.Goals as goal

pub returns-in_default : goal.returns-in_default
returns-in_default c = λ state rows space answer rows_are size has. limits_none c.args.answer state space rows answer has c.in_default.is

pub returns-then-has_room : goal.returns-then-has_room
returns-then-has_room c = λ state rows space answer rows_are size has.
    limits_kept c.args.answer state space rows answer has c.in-Some.write c.in-Some.is (sym (c.has_room.ensures rows rows_are size) ∙ c.if-has_room.true)

pub returns : goal.returns
returns c = λ state rows space answer rows_are size has.
    limits_refused c.args.answer state space rows answer has c.in-Some.write c.in-Some.is (sym (c.has_room.ensures rows rows_are size) ∙ c.if-has_room.false)
