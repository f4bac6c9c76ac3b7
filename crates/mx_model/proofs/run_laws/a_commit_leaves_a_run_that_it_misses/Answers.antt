use Rattle.std.proofs.Common.{map, ap}
use Rattle.mx_model.specs.statements.Answer.{Answer}
use Rattle.mx_model.proofs.AloneFrame.{rows_leave_run}
use Rattle.mx_model.proofs.FrameRuns.{rows_stay_sound}
use Rattle.mx_model.proofs.run_laws.a_commit_leaves_a_run_that_it_misses.Goals as goal

pub returns : goal.returns
returns c = λ ids before commit statements sound bytes plain missed.
    let same = rows_leave_run ids before commit.rows statements (rows_stay_sound before commit.rows sound bytes) plain missed in
    (ap (map (λ (answer : Answer). answer.reply)) same.0, ap (map (λ (answer : Answer). answer.reads)) same.0, same.1)
