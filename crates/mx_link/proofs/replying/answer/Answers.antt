use Rattle.std.proofs.Common.{◌∷◌, refl}
use Rattle.mx_session.specs.JobViews.{job_view}
use Rattle.mx_link.specs.Links.{step_of}
use Rattle.mx_link.proofs.ReplyLaws.{answer_given}
use Rattle.mx_link.proofs.replying.answer.Goals as goal

pub returns-clause-gives : goal.returns-clause-gives
returns-clause-gives c =
    let job = job_view c.args.job.now in (
      refl,
      λ base history mine stands.
          answer_given base history mine c.reply.new.engine job c.count-2.result c.reply.new.buffers.packet
          (λ reply now. c.count-2.ensures.steps base (step_of job reply ∷ history) now) (c.in_ok-reply.ensures.replied base history stands),
    )
