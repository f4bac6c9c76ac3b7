use Rattle.std.proofs.Common.{◌≡◌, ℕ, ◌+◌, ◌-◌, length, ap, ◌∙◌, arith}
use Rattle.mx_session.specs.Sessions.{unsent_length}
use Rattle.mx_session.specs.Outboxes.{OutboxState, held_length}
use Rattle.mx_session.proofs.OutboxLaws.{unsent_of}
use Rattle.mx_session.proofs.outbox.Outbox.unsent.Goals as goal

pub returns : goal.returns
returns c =
    let i = c.self.inside in
    let whole : i.released + held_length i.queue.items ≡ length i.buffer.items = omega arith in
    let long : c.len.result ≡ length i.buffer.items = omega arith in
    ap (λ (n : ℕ). n - i.start) long
    ∙ unsent_of i.start i.released i.buffer.items i.queue.items c.self.invariant.0 whole
    ∙ ap (λ (o : OutboxState). unsent_length o.out o.waiting) c.self.view_is
