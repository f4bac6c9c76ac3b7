-- What a pass that asks a session's jobs makes of the history.
use Rattle.std.proofs.lemmas.List.{append_assoc}
use Rattle.std.proofs.Common.{◌≡◌, ◌-◌, ℕ, Bool, false, List, [], ◌∷◌, ◌++◌, length, refl, sym, ap, ◌∙◌, subst, arith, Option, Some, inr}
use Rattle.std.specs.Prelude.{suc, ⊤, Result}
use Rattle.mx_base.specs.declared.refusal.Refusal.{Refusal}
use Rattle.mx_request.specs.declared.request.Ask.{Ask}
use Rattle.mx_session.specs.declared.job.Job.{Job}
use Rattle.mx_request.specs.declared.request.Ask.TheVariants as ask
use Rattle.mx_session.specs.Sessions.{JobSeen, NextSeen, SessionState, next_of}
use Rattle.mx_model.specs.declared.reply.Reply.{Reply}
use Rattle.mx_model.specs.declared.reply.Reply.TheVariants.{Refused}
use Rattle.mx_model.specs.Bases.{Base}
use Rattle.mx_model.specs.Histories.{History, IsLegal, journal_of}
use Rattle.mx_model.specs.Transactions.{schema_version}
use Rattle.mx_serial.specs.Replies.{Told}
use Rattle.mx_engine.specs.declared.answer.Answered.{Answered}
use Rattle.mx_engine.specs.Views.{reply_of}
use Rattle.mx_link.specs.Answers.{GivesAnswer, GivesNext, StopsNext}
use Rattle.mx_link.specs.Links.{step_of}
use Rattle.mx_instance.specs.declared.recorded.Recorded.{Recorded}
use Rattle.mx_instance.specs.Asking.{Asks, IsSince}
use Rattle.mx_instance.specs.Entries.{next_answered, next_refused, told_refusal}
use Rattle.mx_instance.specs.Passes.{Seen, after_entry}
use Rattle.mx_instance.specs.Standing.{BeganOver}

-- the version as the history tells it
told_so : (job : Job) (reply : Reply) (one other : ℕ) → one ≡ other → ◌≡◌ {A = Told} (record { name = job.name; version = one; reply = reply })
    (record { name = job.name; version = other; reply = reply })
told_so job reply one other same = λ i. record { name = job.name; version = same i; reply = reply }

module _ (earlier : Seen) (job : Job) (old new : Seen) (front : ℕ) (packet : List ℕ) (asks : Asks job old new front packet) where
  -- a job that was asked is the next answer of its connection, perhaps after steps of others
  pub answer_asked : (base : Base) (history : History) (since : List ℕ) → IsSince earlier base history since old
      → GivesAnswer (λ base history since. IsSince earlier base history since new) (λ _. ⊤) base history since job front packet
  answer_asked base history since come =
      let made = asks.made in
      let others = made.adds.others in
      let step = step_of job asks.reply in
      let begins = subst (λ (b : Option Recorded). BeganOver b base) (sym (ap (λ (s : Seen). s.base) come.view)) come.began in
      let view : new ≡ after_entry step others (record earlier { seen = history; mine = earlier.mine ++ since; own = earlier.own ++ since; holds = false }) =
      made.adds.view ∙ ap (after_entry step others) come.view in
      let now : new.seen ≡ step ∷ (others ++ history) = ap (λ (s : Seen). s.seen) view in
      let count : front ≡ suc (length (others ++ history)) = made.counts ∙ ap length now in
      let place : length (others ++ history) ≡ front - 1 = omega (arith, count) in
      let version = made.version base begins ∙ ap (λ (h : History). schema_version (journal_of base h)) now in
      let after : List ℕ → List ℕ → Seen = λ mine own. record earlier { seen = step ∷ (others ++ history); mine = mine; own = own; holds = false } in
      record {
        answer = record { job = job; told = record { name = job.name; version = asks.schema; reply = asks.reply }; front = front };
        others = others;
        among = tt;
        asked = refl;
        made = record { told = told_so job asks.reply asks.schema (schema_version (journal_of base (step ∷ (others ++ history)))) version; front = count };
        counted = refl;
        spelled = asks.spelled;
        at = record {
          began = come.began;
          view = view
              ∙ ap (λ (l : List ℕ). after l ((earlier.own ++ since) ++ length (others ++ history) ∷ [])) (append_assoc earlier.mine since (length (others ++ history) ∷ []))
              ∙ ap (λ (l : List ℕ). after (earlier.mine ++ (since ++ length (others ++ history) ∷ [])) l) (append_assoc earlier.own since (length (others ++ history) ∷ []))
              ∙ ap (λ (n : ℕ). after (earlier.mine ++ (since ++ n ∷ [])) (earlier.own ++ (since ++ n ∷ []))) place;
          legal = λ _. subst (IsLegal base) now (made.adds.legal base begins);
        };
      }

-- so the session's next job was answered
pub next_asked : (earlier old new : Seen) (session : SessionState) (job : Job) (rest : List ℕ) (ends : Bool) (front : ℕ) (packet : List ℕ)
    → next_of session ≡ JobSeen job rest ends → Asks job old new front packet
    → GivesNext (λ base history since. IsSince earlier base history since old) (λ base history since. IsSince earlier base history since new) (λ _. ⊤) session
    (Some (record { front = front; ends = ends })) packet
next_asked earlier old new session job rest ends front packet seen asks = (job, rest, seen, answer_asked earlier job old new front packet asks)

-- also where its packet couldn't be written
pub stopped_asked : (earlier old new : Seen) (session : SessionState) (job : Job) (rest : List ℕ) (ends : Bool) (front : ℕ)
    → next_of session ≡ JobSeen job rest ends → ((packet : List ℕ) × Asks job old new front packet)
    → StopsNext (λ base history since. IsSince earlier base history since old) (λ base history since. IsSince earlier base history since new) (λ _. ⊤) session
stopped_asked earlier old new session job rest ends front seen (packet, asks) = λ base history since come.
    inr (record {
      job = job;
      rest = rest;
      ends = ends;
      next = seen;
      front = front;
      packet = packet;
      given = answer_asked earlier job old new front packet asks base history since come;
    })

-- ---- what the notes of a session's next job tell

next_given_so : (session noted : SessionState) (job : Job) (rest : List ℕ) (ends : Bool) → noted ≡ session → next_of session ≡ JobSeen job rest ends
    → next_of noted ≡ JobSeen job rest ends
next_given_so session noted job rest ends same next = ap next_of same ∙ next

-- a request that was answered
pub answered_entry : (session noted : SessionState) (job : Job) (rest : List ℕ) (ends : Bool) (answered told : Result Answered Refusal) (found shown : List (List ℕ))
    → noted ≡ session → next_of session ≡ JobSeen job rest ends → told ≡ answered → shown ≡ found
    → next_answered (next_of noted) told shown ≡ step_of job (reply_of answered found)
answered_entry session noted job rest ends answered told found shown same next tells shows =
    ap (λ (n : NextSeen). next_answered n told shown) (next_given_so session noted job rest ends same next)
    ∙ ap (λ (a : Result Answered Refusal). step_of job (reply_of a shown)) tells
    ∙ ap (λ (l : List (List ℕ)). step_of job (reply_of answered l)) shows

-- one that is refused
pub refused_entry : (session noted : SessionState) (job : Job) (rest : List ℕ) (ends : Bool) (refusal : Refusal) → noted ≡ session
    → next_of session ≡ JobSeen job rest ends → job.ask ≡ ask.Refused refusal → next_refused (next_of noted) ≡ step_of job (Refused refusal)
refused_entry session noted job rest ends refusal same next asked =
    ap next_refused (next_given_so session noted job rest ends same next) ∙ ap (λ (a : Ask). step_of job (told_refusal a)) asked
