-- What who answers a connection's jobs makes of a history.
use Rattle.std.specs.Prelude.{◌≡◌, ◌⊎◌, ℕ, Bool, ◌-◌, List, [], ◌∷◌, ◌++◌, map, Option, Some, None}
use Rattle.mx_session.specs.declared.job.Job.{Job}
use Rattle.mx_session.specs.Sessions.{JobSeen, SessionState, next_of}
use Rattle.mx_model.specs.Bases.{Base}
use Rattle.mx_model.specs.Histories.{History}
use Rattle.mx_link.specs.declared.asker.Given.{Given}
use Rattle.mx_link.specs.Links.{Answer, HasLink, IsMadeAfter, IsNoJob, answer_packet, answer_step, waiting_of}

-- who answers has come to this history, after the base, in which the steps at these places are its own
abbrev pub Place : Type 1
Place = Base → History → List ℕ → Type 0

-- where an answer's step stands in the history: how many steps are before it
abbrev pub step_place : Answer → ℕ
step_place answer = answer.front - 1

-- the history goes on by the steps of these answers, in order, before each of them entries of which `between` may hold
abbrev pub AreMade : Base → (between : History → Type 0) → (earlier : History) → List Answer → (more : History) → Type 0
AreMade base between earlier [] more = more ≡ []
AreMade base between earlier (answer ∷ answers) more =
    (others later : History) × between others × IsMadeAfter base (others ++ earlier) answer
    × (more ≡ later ++ answer_step answer ∷ others) × AreMade base between (answer_step answer ∷ (others ++ earlier)) answers later

-- the next job of a session was answered, perhaps after entries of others
pub record GivesAnswer (after : Place) (between : History → Type 0) (base : Base) (history : History) (mine : List ℕ) (job : Job) (front : ℕ) (packet : List ℕ) : Type 0 where
  pub answer : Answer
  pub others : History
  pub among : between others
  pub asked : answer.job ≡ job
  pub made : IsMadeAfter base (others ++ history) answer
  pub counted : answer.front ≡ front
  pub spelled : packet ≡ answer_packet answer
  pub at : after base (answer_step answer ∷ (others ++ history)) (mine ++ step_place answer ∷ [])

-- the session's next job was answered, with which the connection ends or not; else it has none, and no step was made
abbrev pub GivesNext : (before after : Place) → (between : History → Type 0) → SessionState → Option Given → (packet : List ℕ) → Type 0
GivesNext before after between session (Some given) packet =
    (job : Job) × (rest : List ℕ) × (next_of session ≡ JobSeen job rest given.ends)
    × ((base : Base) (history : History) (mine : List ℕ) → before base history mine → GivesAnswer after between base history mine job given.front packet)
GivesNext before after between session None packet =
    IsNoJob (next_of session) × ((base : Base) (history : History) (mine : List ℕ) → before base history mine → after base history mine)

-- the session's next job was answered, by a packet that isn't kept
pub record AnsweredNext (after : Place) (between : History → Type 0) (base : Base) (history : History) (mine : List ℕ) (session : SessionState) : Type 0 where
  pub job : Job
  pub rest : List ℕ
  pub ends : Bool
  pub next : next_of session ≡ JobSeen job rest ends
  pub front : ℕ
  pub packet : List ℕ
  pub given : GivesAnswer after between base history mine job front packet

-- who was to answer the session's next job stopped before its step or after it
abbrev pub StopsNext : (before after : Place) → (between : History → Type 0) → SessionState → Type 0
StopsNext before after between session =
    (base : Base) (history : History) (mine : List ℕ) → before base history mine → after base history mine ⊎ AnsweredNext after between base history mine session

-- Jobs of a connection were answered: the history goes on by the answers' steps, which are its own, and the answers wait.
pub record AnswersMore (after : Place) (between : History → Type 0) (base : Base) (history : History) (mine : List ℕ) (answers : List Answer) (greeting came gone : List ℕ) (old new : SessionState) : Type 0 where
  pub made : List Answer
  pub more : History
  pub are : AreMade base between history made more
  pub at : after base (more ++ history) (mine ++ map step_place made)
  pub link : HasLink base (more ++ history) (answers ++ made) greeting came gone new
  pub whose : new.connection ≡ old.connection
  pub held : new.waiting ≡ old.waiting ++ map waiting_of made
  pub sends : new.out ≡ old.out
