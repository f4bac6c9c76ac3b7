use Rattle.std.proofs.Common.{◌≡◌, ℕ, List, ◌++◌, ap, ◌∙◌}
use Rattle.std.proofs.lemmas.Result.{on_ok_weaker}
use Rattle.mx_session.specs.JobViews.{ask_view, job_view}
use Rattle.mx_model.specs.declared.reply.Reply.TheVariants.{Refused}
use Rattle.mx_serial.specs.ReplyStream.{packet_of_reply}
use Rattle.mx_engine.specs.Views.{reply_of}
use Rattle.mx_link.specs.Replying.{Replied}
use Rattle.mx_link.proofs.ReplyLaws.{on_written, replied_by, stepped_by}
use Rattle.mx_link.proofs.replying.reply.Goals as goal

pub returns-in-Refused-clause-replied : goal.returns-in-Refused-clause-replied
returns-in-Refused-clause-replied c = λ base history stands.
    let job = job_view c.args.job.now in
    let arm = c.in-Refused in
    let before = c.truncate.new.self in
    let packet = c.write_error.new.out in
    let now = c.look.ensures.refused base history job.name arm.refusal stands in
    let spelled = λ (version : ℕ). packet_of_reply version job.sync.0 (Refused arm.refusal) in
    on_written c.write_error.result (packet ≡ before ++ spelled c.schema-schema.result) (packet ≡ before) (Replied base history c.look.new.self job packet)
    (λ written.
    replied_by base history c.look.new.self job packet _ (Refused arm.refusal) (ap ask_view arm.is) now
    (written ∙ ap (λ (l : List ℕ). l ++ spelled c.schema-schema.result) c.truncate.ensures ∙ ap spelled (c.schema-schema.ensures base _ now)))
    c.write_error.ensures.written

pub returns-in-Request-clause-replied : goal.returns-in-Request-clause-replied
returns-in-Request-clause-replied c = λ base history stands.
    let job = job_view c.args.job.now in
    let arm = c.in-Request in
    let packet = c.write_answer.new.buffers.packet in
    let reply = reply_of c.request_in_place-answered.result c.request_in_place-answered.new.found in
    let now = c.request_in_place-answered.ensures base history stands in
    let spelled = λ (version : ℕ). packet_of_reply version job.sync.0 reply in
    on_ok_weaker c.write_answer.result (λ (written : packet ≡ c.truncate.new.self ++ spelled c.schema-schema-in-Request.result).
    replied_by base history c.request_in_place-answered.new.self job packet _ reply (ap ask_view arm.is) now
    (written ∙ ap (λ (l : List ℕ). l ++ spelled c.schema-schema-in-Request.result) c.truncate.ensures ∙ ap spelled (c.schema-schema-in-Request.ensures base _ now)))
    c.write_answer.ensures

pub returns-in-Refused-clause-asked : goal.returns-in-Refused-clause-asked
returns-in-Refused-clause-asked c = λ base history stands.
    let job = job_view c.args.job.now in
    stepped_by base history c.look.new.self job _ (Refused c.in-Refused.refusal) (ap ask_view c.in-Refused.is)
    (c.look.ensures.refused base history job.name c.in-Refused.refusal stands)

pub returns-in-Request-clause-asked : goal.returns-in-Request-clause-asked
returns-in-Request-clause-asked c = λ base history stands.
    stepped_by base history c.request_in_place-answered.new.self (job_view c.args.job.now) _
    (reply_of c.request_in_place-answered.result c.request_in_place-answered.new.found) (ap ask_view c.in-Request.is)
    (c.request_in_place-answered.ensures base history stands)
