use Rattle.std.proofs.Common.{◌≡◌, ◌∙◌, ◌+◌, ◌-◌, drop, length, ap, arith}
use Rattle.std.proofs.lemmas.List.{length-drop}
use Rattle.std.proofs.lemmas.Result.{err_from_is_err_and}
use Rattle.mx_session.specs.Outboxes.{held_length}
use Rattle.mx_session.proofs.OutboxLaws.{with_reply, outbox_of-drop, outbox_of-push}
use Rattle.mx_session.proofs.outbox.Outbox.push.Goals as goal

pub returns-in_err-reserve : goal.returns-in_err-reserve
returns-in_err-reserve c =
    let failed = err_from_is_err_and c.from_residual.result c.from_residual.ensures.1 in
    let i = c.self.inside in
    rw (failed.1, c.reserve.ensures.items, c.drop_sent-dropped.ensures.dropped.1)
    (outbox_of-drop i.start i.released c.drop_sent-dropped.result i.buffer.items i.queue.items c.drop_sent-dropped.ensures.dropped.0 c.self.invariant.0
    ∙ c.self.view_is)

pub returns-in_err-extend_from_slice : goal.returns-in_err-extend_from_slice
returns-in_err-extend_from_slice c =
    let failed = err_from_is_err_and c.from_residual-in_err-extend_from_slice.result c.from_residual-in_err-extend_from_slice.ensures.1 in
    let i = c.self.inside in
    rw (failed.1, c.in_err-extend_from_slice.ensures.items, c.reserve.ensures.items, c.drop_sent-dropped.ensures.dropped.1)
    (outbox_of-drop i.start i.released c.drop_sent-dropped.result i.buffer.items i.queue.items c.drop_sent-dropped.ensures.dropped.0 c.self.invariant.0
    ∙ c.self.view_is)

pub returns : goal.returns
returns c =
    let i = c.self.inside in
    let dropped = c.drop_sent-dropped.result in
    let left : (i.released - dropped) + held_length i.queue.items ≡ length (drop dropped i.buffer.items) =
    omega (arith, length-drop dropped i.buffer.items, c.drop_sent-dropped.ensures.dropped.0) in
    rw (c.push_back_reserved.ensures.items, c.in_ok-extend_from_slice.ensures.items, c.reserve.ensures.items, c.drop_sent-dropped.ensures.dropped.1)
    (outbox_of-push (i.start - dropped) (i.released - dropped) (drop dropped i.buffer.items) i.queue.items c.args.front c.args.reply.now left
    ∙ ap (with_reply c.args.front c.args.reply.now)
    (outbox_of-drop i.start i.released dropped i.buffer.items i.queue.items c.drop_sent-dropped.ensures.dropped.0 c.self.invariant.0 ∙ c.self.view_is))
