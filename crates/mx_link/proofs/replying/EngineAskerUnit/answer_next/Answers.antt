use Rattle.mx_session.specs.JobViews.{job_view}
use Rattle.mx_link.proofs.ReplyLaws.{next_given, next_stopped}
use Rattle.mx_link.proofs.SessionLaws.{told_sound}
use Rattle.mx_link.proofs.replying.EngineAskerUnit.answer_next.Goals as goal

pub answer-requires : goal.answer-requires
answer-requires c =
    let (rest, seen) = c.in-Job.ensures in
    told_sound c.args.session.now (job_view c.in-Job.job) rest c.in-Job.job.ends seen

pub returns-in-Job-clause-answers : goal.returns-in-Job-clause-answers
returns-in-Job-clause-answers c =
    let (rest, seen) = c.in-Job.ensures in
    next_given c.args.self.now c.answer.new.engine c.args.session.now (job_view c.in-Job.job) rest c.in-Job.job.ends c.answer.new.buffers.packet seen
    c.answer.result c.answer.ensures.gives

pub returns-in-Job-clause-stops : goal.returns-in-Job-clause-stops
returns-in-Job-clause-stops c =
    let (rest, seen) = c.in-Job.ensures in
    next_stopped c.args.self.now c.answer.new.engine c.args.session.now (job_view c.in-Job.job) rest c.in-Job.job.ends seen c.answer.result c.answer.ensures.stops
