-- An outbox as its calls see it, and the replies that wait in it.
use Rattle.std.specs.Prelude.{ℕ, List, [], ◌∷◌, ◌++◌, take, drop, sum_by}
use Rattle.mx_session.specs.declared.outbox.Held.{Held}
use Rattle.mx_session.specs.Sessions.{Waiting, released}

pub record OutboxState : Type 0 where
  pub waiting : List Waiting
  -- the bytes that may be sent
  pub out : List ℕ

-- how many bytes these replies have
abbrev pub held_length : List Held → ℕ
held_length queue = sum_by (λ held. held.size) queue

-- these replies, whose bytes stand one after the other
abbrev pub held_replies : List Held → List ℕ → List Waiting
held_replies [] bytes = []
held_replies (held ∷ others) bytes = record { front = held.front; reply = take held.size bytes } ∷ held_replies others (drop held.size bytes)

-- the outbox of a buffer of which what stands before `start` is sent, and what stands before `end` may be
abbrev pub outbox_of : (start end : ℕ) → (buffer : List ℕ) → List Held → OutboxState
outbox_of start end buffer queue = record { waiting = held_replies queue (drop end buffer); out = drop start (take end buffer) }

-- an outbox after the replies up to this point became durable
abbrev pub after_release : (durable : ℕ) → OutboxState → OutboxState
after_release durable outbox = record { waiting = (released durable outbox.waiting).1; out = outbox.out ++ (released durable outbox.waiting).0 }
