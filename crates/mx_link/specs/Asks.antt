-- What a connection may ask.
use Rattle.std.specs.Prelude.{⊤, ℕ}
use Rattle.mx_request.specs.declared.request.Ask.{Ask}
use Rattle.mx_request.specs.declared.request.Ask.TheVariants as ask
use Rattle.mx_request.specs.Spelling.{IsAskable}
use Rattle.mx_session.specs.declared.job.Job.{Job}

abbrev pub sync_of : Job → ℕ
sync_of job = job.sync.0

-- A job is a request that can be asked, or its refusal, and no disconnect.
abbrev pub IsSoundAsk : Ask → Type 0
IsSoundAsk (ask.Request request) = IsAskable request
IsSoundAsk (ask.Refused refusal) = ⊤
IsSoundAsk ask.Leave = ⊥

abbrev pub IsJob : Job → Type 0
IsJob job = IsSoundAsk job.ask
