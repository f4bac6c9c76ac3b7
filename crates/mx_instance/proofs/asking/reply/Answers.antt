use Rattle.std.proofs.Common.{◌≡◌, List, ℕ, ◌++◌, refl, ap, ◌∙◌}
use Rattle.std.proofs.lemmas.Result.{on_ok_weaker}
use Rattle.mx_session.specs.JobViews.{ask_view, job_view}
use Rattle.mx_model.specs.declared.reply.Reply.TheVariants.{Refused}
use Rattle.mx_serial.specs.ReplyStream.{packet_of_reply}
use Rattle.mx_engine.specs.Views.{reply_of}
use Rattle.mx_link.proofs.ReplyLaws.{on_err, on_written}
use Rattle.mx_instance.specs.Asking.{Asks}
use Rattle.mx_instance.specs.Passes.{seen_by}
use Rattle.mx_instance.proofs.asking.reply.Goals as goal

pub refuse_in_turn-stepped-requires-clause-next : goal.refuse_in_turn-stepped-requires-clause-next
refuse_in_turn-stepped-requires-clause-next g c =
    let (rest, seen) = c.requires.next in
    let job = job_view c.args.job.now in
    (job.name, c.in-Refused.refusal, record { job = job; rest = rest; ends = c.args.job.now.ends; next = seen; named = refl; asks = ap ask_view c.in-Refused.is })

pub returns-in-Request-clause-asks : goal.returns-in-Request-clause-asks
returns-in-Request-clause-asks g c =
    let (rest, seen) = c.requires.next in
    let job = job_view c.args.job.now in
    let packet = c.write_answer.new.buffers.packet in
    let stepped = c.request_in_turn-answered.result.1 in
    let reply = reply_of c.request_in_turn-answered.result.0 c.request_in_turn-answered.new.found in
    on_ok_weaker c.write_answer.result (λ (written : packet ≡ c.truncate.new.self ++ packet_of_reply stepped.schema job.sync.0 reply).
    record {
      reply = reply;
      schema = stepped.schema;
      made = c.request_in_turn-answered.ensures.made job rest c.args.job.now.ends seen;
      spelled = written ∙ ap (λ (l : List ℕ). l ++ packet_of_reply stepped.schema job.sync.0 reply) c.truncate.ensures;
    })
    c.write_answer.ensures

pub returns-in-Refused-clause-asks : goal.returns-in-Refused-clause-asks
returns-in-Refused-clause-asks g c =
    let (rest, seen) = c.requires.next in
    let job = job_view c.args.job.now in
    let before = c.truncate.new.self in
    let packet = c.write_error.new.out in
    let stepped = c.refuse_in_turn-stepped.result in
    let spelled = packet_of_reply stepped.schema job.sync.0 (Refused c.in-Refused.refusal) in
    on_written c.write_error.result (packet ≡ before ++ spelled) (packet ≡ before)
    (Asks job (seen_by c.args.pass.now) (seen_by c.refuse_in_turn-stepped.new.pass) stepped.front packet)
    (λ written. record {
      reply = Refused c.in-Refused.refusal;
      schema = stepped.schema;
      made = c.refuse_in_turn-stepped.ensures.made job rest c.args.job.now.ends c.in-Refused.refusal seen (ap ask_view c.in-Refused.is);
      spelled = written ∙ ap (λ (l : List ℕ). l ++ spelled) c.truncate.ensures;
    })
    c.write_error.ensures.written

pub returns-in-Request-clause-stops : goal.returns-in-Request-clause-stops
returns-in-Request-clause-stops g c =
    let (rest, seen) = c.requires.next in
    let job = job_view c.args.job.now in
    let stepped = c.request_in_turn-answered.result.1 in
    let reply = reply_of c.request_in_turn-answered.result.0 c.request_in_turn-answered.new.found in
    on_err c.write_answer.result (
      packet_of_reply stepped.schema job.sync.0 reply,
      record {
        reply = reply;
        schema = stepped.schema;
        made = c.request_in_turn-answered.ensures.made job rest c.args.job.now.ends seen;
        spelled = refl;
      },
    )

pub returns-in-Refused-clause-stops : goal.returns-in-Refused-clause-stops
returns-in-Refused-clause-stops g c =
    let (rest, seen) = c.requires.next in
    let job = job_view c.args.job.now in
    let stepped = c.refuse_in_turn-stepped.result in
    on_err c.write_error.result (
      packet_of_reply stepped.schema job.sync.0 (Refused c.in-Refused.refusal),
      record {
        reply = Refused c.in-Refused.refusal;
        schema = stepped.schema;
        made = c.refuse_in_turn-stepped.ensures.made job rest c.args.job.now.ends c.in-Refused.refusal seen (ap ask_view c.in-Refused.is);
        spelled = refl;
      },
    )
