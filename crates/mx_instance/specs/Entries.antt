-- Which entry of the history a note tells.
use Rattle.std.specs.Prelude.{ℕ, Bool, true, false, List, Result}
use Rattle.mx_base.specs.declared.refusal.Refusal.{Refusal}
use Rattle.mx_request.specs.declared.request.Ask.{Ask}
use Rattle.mx_request.specs.declared.request.Ask.TheVariants as ask
use Rattle.mx_session.specs.Sessions.{NextSeen, JobSeen, next_of}
use Rattle.mx_model.specs.declared.reply.Reply.{Reply}
use Rattle.mx_model.specs.declared.reply.Reply.TheVariants as reply
use Rattle.mx_model.specs.Histories.{Asked, Confirmed, Entry, Left, Looked, Took}
use Rattle.mx_engine.specs.declared.answer.Answered.{Answered}
use Rattle.mx_engine.specs.Views.{reply_of}
use Rattle.mx_link.specs.Links.{step_of}
use Rattle.mx_instance.specs.declared.recorded.Note.{Note}
use Rattle.mx_instance.specs.declared.recorded.Note.TheVariants as note

-- the reply to a refused job
abbrev pub told_refusal : Ask → Reply
told_refusal (ask.Refused refusal) = reply.Refused refusal
told_refusal _ = reply.Empty

-- the step of a session's next job, where it has one
abbrev pub next_answered : NextSeen → Result Answered Refusal → List (List ℕ) → Entry
next_answered (JobSeen job rest ends) answered found = step_of job (reply_of answered found)
next_answered _ answered found = Looked

abbrev pub next_refused : NextSeen → Entry
next_refused (JobSeen job rest ends) = step_of job (told_refusal job.ask)
next_refused _ = Looked

-- the entry that a note tells
abbrev pub entry_of : Note → Entry
entry_of (note.Answered session answered found) = next_answered (next_of session.value) answered.value found.value
entry_of (note.Refused session) = next_refused (next_of session.value)
entry_of (note.Asked job reply) = step_of job.value reply.value
entry_of (note.Left conn) = Left conn.0
entry_of (note.Took txs upto) = Took txs.value upto
entry_of (note.Confirmed upto) = Confirmed upto
entry_of note.Looked = Looked

-- an entry that the journal's pass alone adds
abbrev pub is_journal_step : Entry → Bool
is_journal_step (Took transactions upto) = true
is_journal_step (Confirmed upto) = true
is_journal_step _ = false

-- an entry that is a request's
abbrev pub is_request : Entry → Bool
is_request (Asked name ask reply) = true
is_request _ = false
