use Rattle.std.proofs.Common.{◌≡◌, ℕ, ◌+◌, ◌≤◌, vec_len, deque_len}
use Rattle.mx_session.specs.Outboxes.{OutboxState, held_length, outbox_of, after_release}
use Rattle.mx_session.specs.declared.outbox.Outbox.TheInside.{Inside}
use Rattle.mx_session.proofs.outbox.Outbox.release.Given as goal

-- what is let go from here on is what was let go at first
pub record Releases (durable : ℕ) (entry : OutboxState) (inside : Inside) : Type 0 where
  pub order : inside.start ≤ inside.released
  pub whole : inside.released + held_length inside.queue.items ≡ vec_len inside.buffer
  pub same : after_release durable (outbox_of inside.start inside.released inside.buffer.items inside.queue.items) ≡ after_release durable entry

abbrev pub invariant-loop-first : goal.invariant-loop-first
invariant-loop-first l = Releases l.durable l.fn.self l.self-inside

abbrev pub decreases-loop-first : goal.decreases-loop-first
decreases-loop-first l = deque_len l.self-inside.queue
