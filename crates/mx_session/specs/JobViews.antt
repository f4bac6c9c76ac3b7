-- A job in place, as the job that it is, and what comes next on a session.
use Rattle.std.specs.Prelude.{◌≡◌, ℕ, Bool, List}
use Rattle.mx_request.specs.declared.request.Ask.{Ask}
use Rattle.mx_request.specs.declared.request.Ask.TheVariants as ask
use Rattle.mx_request.specs.InPlace.{request_view}
use Rattle.mx_session.specs.declared.job.AskRef.{AskRef}
use Rattle.mx_session.specs.declared.job.AskRef.TheVariants as in_place
use Rattle.mx_session.specs.declared.job.Job.{Job}
use Rattle.mx_session.specs.declared.job.JobRef.{JobRef}
use Rattle.mx_session.specs.declared.session.NextRef.{NextRef}
use Rattle.mx_session.specs.declared.session.NextRef.TheVariants as next
use Rattle.mx_session.specs.Sessions.{SessionState, JobSeen, MoreNeeded, AllSeen, next_of}

abbrev pub ask_view : AskRef → Ask
ask_view (in_place.Request request) = ask.Request (request_view request)
ask_view (in_place.Refused refusal) = ask.Refused refusal

-- a job without where its request lies in memory
abbrev pub job_view : JobRef → Job
job_view job = record { name = job.name; sync = job.sync; ask = ask_view job.ask }

-- exactly what comes next
abbrev pub ShowsNext : NextRef → SessionState → Type 0
ShowsNext (next.Job job) session = (rest : List ℕ) × (next_of session ≡ JobSeen (job_view job) rest job.ends)
ShowsNext next.NeedMore session = next_of session ≡ MoreNeeded
ShowsNext next.Ended session = next_of session ≡ AllSeen

-- a job comes next, with which the connection ends or not
abbrev pub IsJobNext : SessionState → (ends : Bool) → Type 0
IsJobNext session ends = (job : Job) × (rest : List ℕ) × (next_of session ≡ JobSeen job rest ends)
