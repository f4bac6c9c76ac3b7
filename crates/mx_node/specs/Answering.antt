-- What bytes of a connection make of its session, and what may leave of it then.
use Rattle.std.specs.Prelude.{◌≡◌, ℕ, Bool, true, not, ◌&&◌, List, [], ◌∷◌, ◌++◌, Option, Some, None, is_some, slice_set, unwrap_or, if◌then◌else◌}
use Rattle.mx_outside.specs.Disks.{Disk}
use Rattle.mx_session.specs.Sessions.{SessionState, first_front, next_of, released}
use Rattle.mx_model.specs.Bases.{Base}
use Rattle.mx_model.specs.Histories.{History}
use Rattle.mx_serial.specs.Order.{order_in}
use Rattle.mx_directory.specs.Survival.{Lasts}
use Rattle.mx_engine.specs.declared.engine.Engine.{Engine}
use Rattle.mx_engine.specs.Standing.{EngineStandsFor}
use Rattle.mx_link.specs.Links.{Answer, HasLink, IsNoJob}
use Rattle.mx_link.specs.Answers.{AnswersMore}
use Rattle.mx_node.specs.declared.jobs.Arrival.{Arrival}
use Rattle.mx_node.specs.declared.out_units.OutUnit.{OutUnit}
use Rattle.mx_node.specs.declared.single.Single.{Single}
use Rattle.mx_node.specs.Inputs.{InputUnit, Bytes}
use Rattle.mx_node.specs.Connections.{came_on}
use Rattle.mx_node.specs.Order.{AreStepsOf, departure_where}
use Rattle.mx_node.specs.Outputs.{closed_on, output_for, sent_on}
use Rattle.mx_node.specs.Ready.{Ready}
use Rattle.mx_node.specs.Serving.{Attends}
use Rattle.mx_node.specs.Starts.{Start}
use Rattle.mx_node.specs.Tables.{opened, session_at}

-- the engine answered jobs of a connection, and nobody else made a step
abbrev pub AnswersBytes : Engine → Base → History → List Answer → (greeting came gone : List ℕ) → (old new : SessionState) → Type 0
AnswersBytes engine base history answers greeting came gone old new =
    AnswersMore (λ base history mine. EngineStandsFor engine base history) (λ others. others ≡ []) base history [] answers greeting came gone old new

-- what bytes brought: replies wait on the session, and it ended by them
abbrev pub IsArrival : (old new : SessionState) → Arrival → Type 0
IsArrival old new arrival = (arrival.waits ≡ is_some (first_front new.waiting)) × (arrival.ends ≡ (not old.ended && new.ended))

-- the session of a connection, or the one with which it opens
abbrev pub session_of : Single → ℕ → SessionState
session_of server connection = unwrap_or (session_at server.sessions.items connection) (opened connection server.greeting)

-- the connection has this session now, all others are as they were, and so is the journal
pub record PutsSession (connection : ℕ) (session : SessionState) (old new : Single) : Type 0 where
  pub sessions : new.sessions.items ≡ slice_set old.sessions.items connection (Some session)
  pub journal : new.journal ≡ old.journal
  pub greeting : new.greeting ≡ old.greeting

-- Bytes came on a connection: all jobs of it were answered, and nothing else was done. After its end nothing was.
pub record TakesBytes (connection : ℕ) (bytes : List ℕ) (old new : Single) (arrival : Arrival) : Type 0 where
  pub session : SessionState
  pub puts : PutsSession connection session old new
  pub answers : (base : Base) (history : History) (answers : List Answer) (greeting came gone : List ℕ) → EngineStandsFor old.engine base history
      → HasLink base history answers greeting came gone (session_of old connection)
      → AnswersBytes new.engine base history answers greeting (came ++ bytes) gone (session_of old connection) session
  pub all : IsNoJob (next_of session)
  pub after_end : (session_of old connection).ended ≡ true → (session ≡ session_of old connection) × (new.engine ≡ old.engine)
  pub arrives : IsArrival (session_of old connection) session arrival

-- a session whose replies were let go that depend on no more than so many steps
abbrev pub let_leave : (durable : ℕ) → SessionState → SessionState
let_leave durable session = record session { waiting = (released durable session.waiting).1; out = session.out ++ (released durable session.waiting).0 }

-- a session that was sent all that it might be
abbrev pub all_sent : SessionState → SessionState
all_sent session = record session { out = [] }

-- The replies of a session that depend on no more than so many steps were let go, and its connection is sent all that it may be.
pub record Releases (durable connection : ℕ) (session : SessionState) (old new : Single) (before after : List OutUnit) : Type 0 where
  pub sent : after ≡ before ++ sent_on connection (let_leave durable session).out
  pub puts : PutsSession connection (all_sent (let_leave durable session)) old new
  pub engine : new.engine ≡ old.engine

-- only the engine changed
pub record OnlyEngine (old new : Single) : Type 0 where
  pub sessions : new.sessions.items ≡ old.sessions.items
  pub journal : new.journal ≡ old.journal
  pub greeting : new.greeting ≡ old.greeting

-- the server has closed the connection, where it ended
abbrev pub closed_where : ℕ → Bool → List OutUnit
closed_where connection ended = if ended then closed_on connection ∷ [] else []

-- What was done for bytes, but for the end of their connection: its jobs were answered, what they committed is durable, and it is
-- sent the replies.
pub record AnswersBeforeEnd (start : Start) (units : List InputUnit) (earlier : History) (connection : ℕ) (bytes : List ℕ) (old new : Single)
    (before after : Option (List Disk)) (output : List OutUnit) (ended : Bool) : Type 0 where
  pub history : History
  pub since : (more : History) × (history ≡ more ++ earlier)
  pub lasts : Lasts start.base history before after
  pub ready : Ready start.base history new.engine new.journal after
  pub order : AreStepsOf (units ++ Bytes connection bytes ∷ []) (order_in history ++ departure_where connection ended)
  pub writes : output ++ closed_where connection ended ≡ output_for start units earlier (Bytes connection bytes) history
  pub session : SessionState
  pub attends : Attends connection (came_on connection units ++ bytes) session
  pub table : new.sessions.items ≡ slice_set old.sessions.items connection (Some session)
  pub greeting : new.greeting ≡ old.greeting
