use Rattle.mx_session.specs.JobViews.{job_view}
use Rattle.mx_link.proofs.SessionLaws.{told_sound}
use Rattle.mx_instance.proofs.asking.PassAskerTurns.answer_next.Goals as goal

pub answer-requires-clause-job : goal.answer-requires-clause-job
answer-requires-clause-job g c =
    let (rest, seen) = c.in-Job.ensures in
    told_sound c.args.session.now (job_view c.in-Job.job) rest c.in-Job.job.ends seen
