-- Only private functions and proofs need these: what an engine replies to a job.
use Rattle.std.specs.Prelude.{◌≡◌, ◌⊎◌, ℕ, Bool, List, [], ◌∷◌, Option, Some, None}
use Rattle.mx_session.specs.declared.job.Job.{Job}
use Rattle.mx_model.specs.declared.reply.Reply.{Reply}
use Rattle.mx_model.specs.Bases.{Base}
use Rattle.mx_model.specs.Histories.{History}
use Rattle.mx_serial.specs.ReplyStream.{packet_told}
use Rattle.mx_engine.specs.declared.engine.Engine.{Engine}
use Rattle.mx_engine.specs.Standing.{EngineStandsFor}
use Rattle.mx_link.specs.declared.asker.Given.{Given}
use Rattle.mx_link.specs.Answers.{GivesAnswer}
use Rattle.mx_link.specs.Asks.{sync_of}
use Rattle.mx_link.specs.Links.{step_of, told_after}

-- the engine took the step of a job, and this is the packet of its reply
pub record Replied (base : Base) (history : History) (engine : Engine) (job : Job) (packet : List ℕ) : Type 0 where
  pub reply : Reply
  pub stands : EngineStandsFor engine base (step_of job reply ∷ history)
  pub spelled : packet ≡ packet_told (sync_of job) (told_after base history job reply)

-- the engine answered a job, with which the connection ends or not, and nobody else made a step
abbrev pub GivesJob : (old new : Engine) → Job → (ends : Bool) → Option Given → (packet : List ℕ) → Type 0
GivesJob old new job ends (Some given) packet =
    (given.ends ≡ ends) × ((base : Base) (history : History) (mine : List ℕ) → EngineStandsFor old base history
    → GivesAnswer (λ base history mine. EngineStandsFor new base history) (λ others. others ≡ []) base history mine job given.front packet)
GivesJob old new job ends None packet = ⊥

-- the engine took no step, or that of a job
abbrev pub StopsJob : (old new : Engine) → Job → Type 0
StopsJob old new job =
    (new ≡ old) ⊎ ((base : Base) (history : History) → EngineStandsFor old base history → (reply : Reply) × EngineStandsFor new base (step_of job reply ∷ history))
