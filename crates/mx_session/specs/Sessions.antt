-- A session as its calls see it.
use Rattle.std.specs.Prelude.{ℕ, ◌+◌, Bool, true, List, [], ◌∷◌, ◌++◌, length, sum_by, Option, Some, None, nat_le, if◌then◌else◌}
use Rattle.mx_frame.specs.Packets.{First, Packet, NeedMore, Broken, first_frame}
use Rattle.mx_session.specs.declared.job.Job.{Job}
use Rattle.mx_session.specs.Jobs.{job_in, broken_job}

-- a reply that waits, and how many steps of the history have to be durable before it is sent
pub record Waiting : Type 0 where
  pub front : ℕ
  pub reply : List ℕ

pub record SessionState : Type 0 where
  pub connection : ℕ
  -- the bytes that came and are no jobs yet
  pub rest : List ℕ
  -- whether a packet came that ended the connection
  pub ended : Bool
  pub waiting : List Waiting
  -- the bytes that may be sent
  pub out : List ℕ

-- what a session's next call gives: a job, with the bytes after it and whether the connection ends with it
pub data NextSeen : Type 0 where
  JobSeen : (job : Job) (rest : List ℕ) (ends : Bool) → NextSeen
  MoreNeeded : NextSeen
  AllSeen : NextSeen

abbrev pub next_by : (connection : ℕ) → (bytes : List ℕ) → First → NextSeen
next_by connection bytes (Packet content rest) = JobSeen (job_in connection content).0 rest (job_in connection content).1
next_by connection bytes NeedMore = MoreNeeded
next_by connection bytes Broken = JobSeen (broken_job connection) bytes true

-- what comes next
abbrev pub next_of : SessionState → NextSeen
next_of session = if session.ended then AllSeen else next_by session.connection session.rest (first_frame session.rest)

-- the bytes of the first replies, up to the first that isn't durable, and the replies that go on waiting
abbrev pub released : (durable : ℕ) → List Waiting → List ℕ × List Waiting
released durable [] = ([], [])
released durable (first ∷ others) =
    if nat_le first.front durable then (first.reply ++ (released durable others).0, (released durable others).1) else ([], first ∷ others)

-- how many steps have to be durable before the first reply that waits is sent
abbrev pub first_front : List Waiting → Option ℕ
first_front [] = None
first_front (first ∷ others) = Some first.front

-- how many bytes wait to be sent: those that may be, and those of the replies that wait
abbrev pub unsent_length : (out : List ℕ) → List Waiting → ℕ
unsent_length out waiting = length out + sum_by (λ held. length held.reply) waiting
