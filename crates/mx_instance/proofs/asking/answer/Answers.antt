use Rattle.mx_session.specs.JobViews.{job_view}
use Rattle.mx_instance.specs.Passes.{seen_by}
use Rattle.mx_link.proofs.ReplyLaws.{on_err}
use Rattle.mx_instance.proofs.AskingLaws.{next_asked, stopped_asked}
use Rattle.mx_instance.proofs.asking.answer.Goals as goal

pub returns-clause-gives : goal.returns-clause-gives
returns-clause-gives g c =
    let (rest, seen) = c.requires.next in
    next_asked (seen_by c.args.turns.now.since.value) (seen_by c.args.pass.now) (seen_by c.reply.new.pass) c.args.session.now (job_view c.args.job.now) rest c.args.job.now.ends c.reply.new.front
    c.reply.new.buffers.packet seen c.in_ok-reply.ensures.asks

pub returns-in_err-reply-clause-stops : goal.returns-in_err-reply-clause-stops
returns-in_err-reply-clause-stops g c =
    let (rest, seen) = c.requires.next in
    on_err c.from_residual.result
    (stopped_asked (seen_by c.args.turns.now.since.value) (seen_by c.args.pass.now) (seen_by c.reply.new.pass) c.args.session.now (job_view c.args.job.now) rest
    c.args.job.now.ends c.reply.new.front seen c.in_err-reply.ensures.stops)
