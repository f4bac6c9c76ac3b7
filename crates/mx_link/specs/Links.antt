-- Connections: what came on one, the answers to it, and what went out.
use Rattle.std.specs.Prelude.{◌≡◌, ⊤, ℕ, suc, ◌<◌, ◌≤◌, Bool, true, false, List, [], ◌∷◌, ◌++◌, length, map, take, drop, if◌then◌else◌}
use Rattle.std.specs.List.{AllByRecursion}
use Rattle.mx_frame.specs.Packets.{rest_of}
use Rattle.mx_session.specs.declared.job.Job.{Job}
use Rattle.mx_session.specs.Jobs.{ends, jobs_of}
use Rattle.mx_session.specs.Sessions.{NextSeen, JobSeen, SessionState, Waiting}
use Rattle.mx_model.specs.declared.reply.Reply.{Reply}
use Rattle.mx_model.specs.Bases.{Base}
use Rattle.mx_model.specs.Histories.{Asked, Entry, History, journal_of, ledger_of}
use Rattle.mx_model.specs.Transactions.{schema_version}
use Rattle.mx_serial.specs.Replies.{Told}
use Rattle.mx_serial.specs.ReplyStream.{packet_told}
use Rattle.mx_link.specs.Asks.{sync_of}

-- the step of a job
abbrev pub step_of : Job → Reply → Entry
step_of job reply = Asked job.name job.ask reply

-- the reply to a job after a history, as it is told
abbrev pub told_after : Base → History → Job → Reply → Told
told_after base history job reply = record { name = job.name; version = schema_version (journal_of base (step_of job reply ∷ history)); reply = reply }

-- an answer to a job: the reply as it is told, and how many steps the history has with the job's
pub record Answer : Type 0 where
  pub job : Job
  pub told : Told
  pub front : ℕ

abbrev pub answer_step : Answer → Entry
answer_step answer = step_of answer.job answer.told.reply

abbrev pub answer_packet : Answer → List ℕ
answer_packet answer = packet_told (sync_of answer.job) answer.told

-- the packets of answers, one after the other
abbrev pub answer_packets : List Answer → List ℕ
answer_packets [] = []
answer_packets (answer ∷ answers) = answer_packet answer ++ answer_packets answers

-- an answer that waits until all commits among the steps up to its own are durable
abbrev pub waiting_of : Answer → Waiting
waiting_of answer = record { front = answer.front; reply = answer_packet answer }

-- the answer was made next after this history
pub record IsMadeAfter (base : Base) (earlier : History) (answer : Answer) : Type 0 where
  pub told : answer.told ≡ told_after base earlier answer.job answer.told.reply
  pub front : answer.front ≡ suc (length earlier)

-- the history has the answer's step, at its place
abbrev pub HasStepOf : Base → History → Answer → Type 0
HasStepOf base history answer = (more earlier : History) × (history ≡ more ++ answer_step answer ∷ earlier) × IsMadeAfter base earlier answer

-- the step of each answer comes before those of the answers behind it, so no step is answered twice
abbrev pub AreInOrder : List Answer → Type 0
AreInOrder [] = ⊤
AreInOrder (answer ∷ answers) = AllByRecursion (λ later. answer.front < later.front) answers × AreInOrder answers

-- at some moment of the history all commits among the steps up to the answer's were durable
abbrev pub CouldLeave : Base → History → Answer → Type 0
CouldLeave base history answer = (more earlier : History) × (history ≡ more ++ earlier) × (answer.front ≤ (ledger_of base earlier).durable)

-- the jobs that are still to come of a session's bytes
abbrev pub jobs_left : SessionState → List Job
jobs_left session = if session.ended then [] else jobs_of session.connection session.rest

-- the bytes of a session end its connection, or have ended it
abbrev pub is_ending : SessionState → Bool
is_ending session = if session.ended then true else ends session.connection session.rest

-- no job comes next on a session
abbrev pub IsNoJob : NextSeen → Type 0
IsNoJob (JobSeen job rest ends) = ⊥
IsNoJob _ = ⊤

-- A connection after a history: these bytes came on it, these answers were made to the first of their jobs, in order, each by a
-- step of its own, and these bytes are gone. The first answers were let go, behind what is sent first, each once what it depends on was durable, and are
-- gone or may be sent; the others wait. What isn't answered yet is in the session.
pub record HasLink (base : Base) (history : History) (answers : List Answer) (greeting came gone : List ℕ) (session : SessionState) : Type 0 where
  pub free : ℕ
  pub within : free ≤ length answers
  pub made : AllByRecursion (HasStepOf base history) answers
  pub order : AreInOrder answers
  pub jobs : map (λ answer. answer.job) answers ++ jobs_left session ≡ jobs_of session.connection came
  pub ended : is_ending session ≡ ends session.connection came
  pub rest : session.ended ≡ false → rest_of session.rest ≡ rest_of came
  pub held : session.waiting ≡ map waiting_of (drop free answers)
  pub out : gone ++ session.out ≡ greeting ++ answer_packets (take free answers)
  pub gate : AllByRecursion (CouldLeave base history) (take free answers)
