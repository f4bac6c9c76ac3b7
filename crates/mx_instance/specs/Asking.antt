-- What a pass that asks a session's jobs makes of the history.
use Rattle.std.specs.Prelude.{◌≡◌, ℕ, Bool, false, List, ◌++◌, length}
use Rattle.mx_base.specs.declared.ids.TxnName.{TxnName}
use Rattle.mx_request.specs.declared.request.Ask.{Ask}
use Rattle.mx_session.specs.declared.job.Job.{Job}
use Rattle.mx_session.specs.Sessions.{JobSeen, SessionState, next_of}
use Rattle.mx_model.specs.Bases.{Base}
use Rattle.mx_model.specs.Histories.{Entry, History, IsLegal, journal_of}
use Rattle.mx_model.specs.Transactions.{schema_version}
use Rattle.mx_model.specs.declared.reply.Reply.{Reply}
use Rattle.mx_serial.specs.ReplyStream.{packet_of_reply}
use Rattle.mx_link.specs.Asks.{sync_of}
use Rattle.mx_link.specs.Links.{step_of}
use Rattle.mx_instance.specs.Passes.{AddsStep, Seen}
use Rattle.mx_instance.specs.Standing.{BeganOver}

-- Since what it knew then, the pass has come to this history over the base, in which the entries at these places are its own, each a
-- request. The history is as legal as it was.
pub record IsSince (earlier : Seen) (base : Base) (history : History) (since : List ℕ) (now : Seen) : Type 0 where
  pub began : BeganOver earlier.base base
  pub view : now ≡ record earlier { seen = history; mine = earlier.mine ++ since; own = earlier.own ++ since; holds = false }
  pub legal : IsLegal base earlier.seen → IsLegal base history

-- the session's next job, with which the connection ends or not
abbrev pub IsNextJob : SessionState → Job → (ends : Bool) → Type 0
IsNextJob session job ends = (rest : List ℕ) × (next_of session ≡ JobSeen job rest ends)

-- the pass added a step, and these are how many the history has then, and the schema's version
pub record MakesStep (entry : Entry) (old new : Seen) (front schema : ℕ) : Type 0 where
  pub adds : AddsStep entry old new
  pub counts : front ≡ length new.seen
  pub version : (base : Base) → BeganOver old.base base → schema ≡ schema_version (journal_of base new.seen)

-- a job was asked by one step, and this is the packet of its reply
pub record Asks (job : Job) (old new : Seen) (front : ℕ) (packet : List ℕ) : Type 0 where
  pub reply : Reply
  pub schema : ℕ
  pub made : MakesStep (step_of job reply) old new front schema
  pub spelled : packet ≡ packet_of_reply schema (sync_of job) reply

-- the session's next job is this
pub record AsksNext (session : SessionState) (name : TxnName) (asked : Ask) : Type 0 where
  pub job : Job
  pub rest : List ℕ
  pub ends : Bool
  pub next : next_of session ≡ JobSeen job rest ends
  pub named : job.name ≡ name
  pub asks : job.ask ≡ asked
