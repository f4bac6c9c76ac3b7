-- What an engine replies to a job, as an answer of its connection.
use Rattle.std.proofs.Common.{◌≡◌, ℕ, Bool, List, [], ◌∷◌, Option, Some, None, refl, sym, ap, ◌∙◌, subst, inl, inr}
use Rattle.std.specs.Prelude.{suc, length, Result, Ok, Err, IfOk, OnErr, OnOk, MatchResult}
use Rattle.mx_request.specs.declared.request.Ask.{Ask}
use Rattle.mx_session.specs.declared.job.Job.{Job}
use Rattle.mx_session.specs.Sessions.{JobSeen, SessionState, next_of}
use Rattle.mx_model.specs.declared.reply.Reply.{Reply}
use Rattle.mx_model.specs.Bases.{Base}
use Rattle.mx_model.specs.Histories.{History}
use Rattle.mx_serial.specs.ReplyStream.{packet_told}
use Rattle.mx_engine.specs.declared.engine.Engine.{Engine}
use Rattle.mx_engine.specs.Standing.{EngineStandsFor}
use Rattle.mx_link.specs.declared.asker.Given.{Given}
use Rattle.mx_link.specs.Answers.{GivesAnswer, GivesNext, StopsNext}
use Rattle.mx_link.specs.Asks.{sync_of}
use Rattle.mx_link.specs.Links.{step_of, told_after}
use Rattle.mx_link.specs.Replying.{GivesJob, Replied, StopsJob}

-- what follows where a call that may fail wrote all
pub on_written : {X E : Type 0} (result : Result X E) (written unchanged P : Type 0) → (written → P) → MatchResult result (λ _. written) (λ _. unchanged)
    → OnOk result P
on_written (Ok x) written unchanged P so all = so all
on_written (Err e) written unchanged P so all = tt

-- what holds whatever a call came to
pub on_err : {X E P : Type 0} (result : Result X E) → P → OnErr result P
on_err (Ok x) so = tt
on_err (Err e) so = so

-- the engine's answer and its packet are what a job is replied
pub replied_by : (base : Base) (history : History) (engine : Engine) (job : Job) (packet : List ℕ) (ask : Ask) (reply : Reply) → job.ask ≡ ask
    → EngineStandsFor engine base (step_of (record job { ask = ask }) reply ∷ history) → packet ≡ packet_told (sync_of job) (told_after base history (record job { ask = ask }) reply)
    → Replied base history engine job packet
replied_by base history engine job packet ask reply asked stands spelled = record {
  reply = reply;
  stands = subst (λ (a : Ask). EngineStandsFor engine base (step_of (record job { ask = a }) reply ∷ history)) (sym asked) stands;
  spelled = subst (λ (a : Ask). packet ≡ packet_told (sync_of job) (told_after base history (record job { ask = a }) reply)) (sym asked) spelled;
}

-- and it is the answer that is made next, with no step of others before it
pub answer_given : (base : Base) (history : History) (mine : List ℕ) (engine : Engine) (job : Job) (front : ℕ) (packet : List ℕ)
    → ((reply : Reply) → EngineStandsFor engine base (step_of job reply ∷ history) → front ≡ length (step_of job reply ∷ history))
    → Replied base history engine job packet
    → GivesAnswer (λ base history mine. EngineStandsFor engine base history) (λ others. others ≡ []) base history mine job front packet
answer_given base history mine engine job front packet counts replied = record {
  answer = record { job = job; told = told_after base history job replied.reply; front = suc (length history) };
  others = [];
  among = refl;
  asked = refl;
  made = record { told = refl; front = refl };
  counted = sym (counts replied.reply replied.stands);
  spelled = replied.spelled;
  at = replied.stands;
}

-- so the session's next job was answered
pub next_given : {E : Type 0} (old new : Engine) (session : SessionState) (job : Job) (rest : List ℕ) (ends : Bool) (packet : List ℕ)
    → next_of session ≡ JobSeen job rest ends → (result : Result (Option Given) E) → IfOk result (λ given. GivesJob old new job ends given packet)
    → IfOk result (λ given. GivesNext (λ base history mine. EngineStandsFor old base history) (λ base history mine. EngineStandsFor new base history)
    (λ others. others ≡ []) session given packet)
next_given old new session job rest ends packet seen (Ok (Some given)) answered = (job, rest, seen ∙ ap (JobSeen job rest) (sym answered.0), answered.1)
next_given old new session job rest ends packet seen (Ok None) answered = absurd answered
next_given old new session job rest ends packet seen (Err e) answered = tt

-- the engine took a job's step
pub stepped_by : (base : Base) (history : History) (engine : Engine) (job : Job) (ask : Ask) (reply : Reply) → job.ask ≡ ask
    → EngineStandsFor engine base (step_of (record job { ask = ask }) reply ∷ history) → (reply : Reply) × EngineStandsFor engine base (step_of job reply ∷ history)
stepped_by base history engine job ask reply asked stands =
    (reply, subst (λ (a : Ask). EngineStandsFor engine base (step_of (record job { ask = a }) reply ∷ history)) (sym asked) stands)

-- so the session's next job was answered or not, where its packet couldn't be written
pub next_stopped : {X E : Type 0} (old new : Engine) (session : SessionState) (job : Job) (rest : List ℕ) (ends : Bool) → next_of session ≡ JobSeen job rest ends
    → (result : Result X E) → OnErr result (StopsJob old new job)
    → OnErr result (StopsNext (λ base history mine. EngineStandsFor old base history) (λ base history mine. EngineStandsFor new base history)
    (λ others. others ≡ []) session)
next_stopped old new session job rest ends seen (Ok x) stops = tt
next_stopped old new session job rest ends seen (Err e) (inl same) = λ base history mine stands.
    inl (subst (λ (engine : Engine). EngineStandsFor engine base history) (sym same) stands)
next_stopped old new session job rest ends seen (Err e) (inr asked) = λ base history mine stands.
    let (reply, now) = asked base history stands in
    inr (record {
      job = job;
      rest = rest;
      ends = ends;
      next = seen;
      front = suc (length history);
      packet = packet_told (sync_of job) (told_after base history job reply);
      given = answer_given base history mine new job (suc (length history)) (packet_told (sync_of job) (told_after base history job reply)) (λ _ _. refl)
          (record { reply = reply; stands = now; spelled = refl });
    })
