use Rattle.mx_slow.proofs.slow.run.SlowRun.answer.Goals as goal

pub returns-in-Some : goal.returns-in-Some
returns-in-Some c = λ before run stands.
    let (statement, is, has) = rw c.in-Some.is at (c.in_ok-answer.ensures run.state stands.state) in
    (statement, is, c.within_limits.ensures run.state run.rows statement.space _ stands.rows stands.size has)

pub returns-in-None : goal.returns-in-None
returns-in-None c = λ before run stands. rw c.in-None.is at (c.in_ok-answer.ensures run.state stands.state)
