-- What a link's turn makes of the history, of its connection and of its link.
use Rattle.std.specs.Prelude.{◌≡◌, ◌⊎◌, ⊤, ℕ, ◌+◌, ◌≤◌, ◌<◌, true, false, List, [], ◌∷◌, ◌++◌, length, map, take, Option, None, Some, IfSome}
use Rattle.std.specs.List.{AllByRecursion, Contains}
use Rattle.std.specs.Io.KnownBytes.{Appends, IsAtEnd}
use Rattle.mx_outside.specs.Causes.{Rose}
use Rattle.mx_session.specs.Jobs.{jobs_of}
use Rattle.mx_session.specs.Sessions.{SessionState, first_front, next_of}
use Rattle.mx_session.specs.declared.link_turn.LinkTurn.{LinkTurn}
use Rattle.mx_session.specs.declared.link_turn.LinkTurn.TheVariants as turn
use Rattle.mx_model.specs.Bases.{Base}
use Rattle.mx_model.specs.Histories.{History, IsLegal, Looked, ledger_of}
use Rattle.mx_link.specs.Answers.{step_place}
use Rattle.mx_link.specs.Links.{Answer, HasLink, IsNoJob, answer_packets}
use Rattle.mx_instance.specs.Passes.{Seen}
use Rattle.mx_instance.specs.Standing.{BeganOver}

-- how many bytes are read at once at most
abbrev pub max_piece : ℕ
max_piece = 65536

-- nothing is read while more bytes wait to be sent
abbrev pub max_unsent : ℕ
max_unsent = 16777216

-- What a link's turn begins with: what the pass knows, and the session, on whose connection these bytes came, and were these answers
-- made to the first of their jobs, and these bytes are gone. Beside them stands what is known of the link.
pub record Outset : Type 0 where
  pub base : Base
  pub seen : Seen
  pub session : SessionState
  pub answers : List Answer
  pub greeting : List ℕ
  pub came : List ℕ
  pub gone : List ℕ
  pub known_came : Option (List ℕ)
  pub known_gone : Option (List ℕ)

-- where bytes are known, they are these
abbrev pub AreKnownBytes : Option (List ℕ) → List ℕ → Type 0
AreKnownBytes None bytes = ⊤
AreKnownBytes (Some known) bytes = known ≡ bytes

-- it begins with these, and the connection is as the history and its link have it
pub record IsOutset (outset : Outset) (before : Seen) (old : SessionState) (link_came link_gone : Option (List ℕ)) : Type 0 where
  pub seen : outset.seen ≡ before
  pub session : outset.session ≡ old
  pub known_came : outset.known_came ≡ link_came
  pub known_gone : outset.known_gone ≡ link_gone
  pub came : AreKnownBytes link_came outset.came
  pub gone : AreKnownBytes link_gone outset.gone
  pub began : BeganOver outset.seen.base outset.base
  pub link : HasLink outset.base outset.seen.seen outset.answers outset.greeting outset.came outset.gone outset.session

-- at this place of the history stands a look
abbrev pub IsLookAt : History → ℕ → Type 0
IsLookAt history place = (later earlier : History) × (history ≡ later ++ Looked ∷ earlier) × (place ≡ length earlier)

-- The pass added the steps of these answers, and looks, and nothing else. The history is as legal as it was.
pub record AddsAnswers (base : Base) (made : List Answer) (old new : Seen) : Type 0 where
  pub since : History
  pub places : List ℕ
  pub view : new ≡ record old { seen = since ++ old.seen; mine = old.mine ++ map step_place made; own = old.own ++ places; holds = false }
  pub each : AllByRecursion (λ place. (length old.seen ≤ place) × (Contains (map step_place made) place ⊎ IsLookAt (since ++ old.seen) place)) places
  pub legal : IsLegal base old.seen → IsLegal base (since ++ old.seen)

-- What came was read in pieces, the last of at most 65,536 bytes. When that was read, all jobs of what came before it were answered, and
-- of the bytes that are due for these no more than 16,777,216 weren't gone.
abbrev pub IsReadWithin : (connection : ℕ) → List Answer → (greeting came more gone : List ℕ) → Type 0
IsReadWithin connection answers greeting came more gone = (more ≡ []) ⊎ ((before piece : List ℕ) × (more ≡ before ++ piece) × (length piece ≤ max_piece)
    × (length (jobs_of connection (came ++ before)) ≤ length answers)
    × (length (greeting ++ answer_packets (take (length (jobs_of connection (came ++ before))) answers)) ≤ length gone + max_unsent))

-- The connection goes on: since the outset these bytes came, these answers were made by steps of the pass, and these bytes were sent.
pub record LinkGoesOn (outset : Outset) (now : Seen) (session : SessionState) (link_came link_gone : Option (List ℕ)) : Type 0 where
  pub made : List Answer
  pub more : List ℕ
  pub sent : List ℕ
  pub began : BeganOver outset.seen.base outset.base
  pub adds : AddsAnswers outset.base made outset.seen now
  pub link : HasLink outset.base now.seen (outset.answers ++ made) outset.greeting (outset.came ++ more) (outset.gone ++ sent) session
  pub whose : session.connection ≡ outset.session.connection
  pub came : Appends outset.known_came link_came more
  pub gone : Appends outset.known_gone link_gone sent
  pub within : IsNoJob (next_of outset.session) → IsReadWithin outset.session.connection (outset.answers ++ made) outset.greeting outset.came more (outset.gone ++ sent)

-- the newest step is a look of the pass, and at it not all commits were durable on which this number of steps depends
pub record IsLookedAt (outset : Outset) (now : Seen) (front : ℕ) : Type 0 where
  pub earlier : History
  pub seen : now.seen ≡ Looked ∷ earlier
  pub since : length outset.seen.seen ≤ length earlier
  pub own : Contains now.own (length earlier)
  pub later : (ledger_of outset.base now.seen).durable < front

-- it goes on, all jobs of what came were answered, and all that could leave was let go
pub record IsAnswered (outset : Outset) (now : Seen) (session : SessionState) (link_came link_gone : Option (List ℕ)) : Type 0 where
  pub goes : LinkGoesOn outset now session link_came link_gone
  pub asked : map (λ answer. answer.job) (outset.answers ++ goes.made) ≡ jobs_of session.connection (outset.came ++ goes.more)
  pub looked : IfSome (first_front session.waiting) (IsLookedAt outset now)

-- Out of memory all that was done is as if the connection had gone on with another session.
abbrev pub Stops : Outset → Seen → SessionState → (link_came link_gone : Option (List ℕ)) → LinkTurn → Type 0
Stops outset now session link_came link_gone turn.NoMemory = (other : SessionState) × LinkGoesOn outset now other link_came link_gone
Stops outset now session link_came link_gone _ = LinkGoesOn outset now session link_came link_gone

abbrev pub ServesLink : Outset → Seen → SessionState → (link_came link_gone : Option (List ℕ)) → LinkTurn → Type 0
ServesLink outset now session link_came link_gone turn.Again = IsAnswered outset now session link_came link_gone
ServesLink outset now session link_came link_gone turn.Closed = IsAnswered outset now session link_came link_gone
ServesLink outset now session link_came link_gone turn.LinkFault = LinkGoesOn outset now session link_came link_gone
ServesLink outset now session link_came link_gone turn.NoMemory = (other : SessionState) × LinkGoesOn outset now other link_came link_gone

-- A connection goes on where its link had to wait or a reply waits, unless it ended and nothing is left of it. All that may be sent was,
-- unless the link had to wait for that.
pub record HasToWait (reads reads_now writes writes_now : ℕ) (session : SessionState) : Type 0 where
  pub waits : Rose reads reads_now ⊎ (Rose writes writes_now ⊎ (0 < length session.waiting))
  pub sent : (session.out ≡ []) ⊎ Rose writes writes_now
  pub unended : session.ended ≡ true → (0 < length session.out) ⊎ (0 < length session.waiting)
  pub all : IsNoJob (next_of session)

-- all was sent, and the connection ended or nothing more comes on it
pub record IsOver (left : Option (List ℕ)) (session : SessionState) : Type 0 where
  pub sent : session.out ≡ []
  pub none : session.waiting ≡ []
  pub ended : (session.ended ≡ true) ⊎ IsAtEnd left
  pub all : IsNoJob (next_of session)

-- why a link's turn came to this
abbrev pub IsTurnBy : (reads reads_now writes writes_now : ℕ) → (left : Option (List ℕ)) → SessionState → LinkTurn → Type 0
IsTurnBy reads reads_now writes writes_now left session turn.Again = HasToWait reads reads_now writes writes_now session
IsTurnBy reads reads_now writes writes_now left session turn.Closed = IsOver left session
IsTurnBy reads reads_now writes writes_now left session _ = ⊤

-- the link's count of faults rose, or the turn came to something else
abbrev pub IsFaultBy : (faults faults_now : ℕ) → LinkTurn → Type 0
IsFaultBy faults faults_now turn.LinkFault = Rose faults faults_now × (faults ≤ faults_now)
IsFaultBy faults faults_now _ = faults_now ≡ faults
