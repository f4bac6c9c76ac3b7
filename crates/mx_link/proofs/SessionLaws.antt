-- What a session's next job leaves of the jobs of its bytes.
use Rattle.std.proofs.Common.{◌≡◌, ℕ, ◌<◌, Bool, true, false, cond, List, [], ◌∷◌, ◌++◌, length, map, None, refl, sym, ap, ◌∙◌, arith}
use Rattle.std.specs.Prelude.{if◌then◌else◌}
use Rattle.mx_msgpack.proofs.ReaderLaws.{all_from_none, all_from_some}
use Rattle.mx_frame.specs.Packets.{First, Packet, NeedMore, Broken, first_frame, packet_found, packet_at, packets_of, rest_of, is_broken}
use Rattle.mx_frame.proofs.FrameLaws.{packet_advances}
use Rattle.mx_session.specs.declared.job.Job.{Job}
use Rattle.mx_session.specs.Jobs.{job_in, jobs_of, some_ends, ends}
use Rattle.mx_session.specs.Sessions.{SessionState, NextSeen, JobSeen, MoreNeeded, AllSeen, Waiting, next_by, next_of}
use Rattle.mx_session.proofs.JobLaws.{goes_on, ends_there, needs_more}
use Rattle.mx_link.specs.Asks.{IsJob}
use Rattle.mx_link.specs.Links.{IsNoJob, is_ending, jobs_left}
use Rattle.mx_link.proofs.PieceLaws.{job_is_sound}

-- ---- ends and rests of bytes

some_ends-on : (first : Job × Bool) (jobs : List (Job × Bool)) → first.1 ≡ false → some_ends (first ∷ jobs) ≡ some_ends jobs
some_ends-on (job, true) jobs e = absurd cc
some_ends-on (job, false) jobs e = refl

some_ends-end : (first : Job × Bool) (jobs : List (Job × Bool)) → first.1 ≡ true → some_ends (first ∷ jobs) ≡ true
some_ends-end (job, true) jobs e = refl
some_ends-end (job, false) jobs e = absurd cc

-- whether these packets and these bytes after them end the connection
abbrev found_ends : (connection : ℕ) → List (List ℕ) × List ℕ → Bool
found_ends connection found = if some_ends (map (job_in connection) found.0) then true else is_broken (first_frame found.1)

-- the bytes begin with a packet
module _ (connection : ℕ) (bytes content rest : List ℕ) (first : first_frame bytes ≡ Packet content rest) where
  packet_ends : ends connection bytes
      ≡ (if some_ends (job_in connection content ∷ map (job_in connection) (packets_of rest)) then true else is_broken (first_frame (rest_of rest)))
  packet_ends = ap (found_ends connection) (all_from_some packet_at packet_advances bytes (content, rest) (ap packet_found first))

  packet_rest : rest_of bytes ≡ rest_of rest
  packet_rest =
      ap (λ (found : List (List ℕ) × List ℕ). found.1) (all_from_some packet_at packet_advances bytes (content, rest) (ap packet_found first))

-- they begin with none
module _ (connection : ℕ) (bytes : List ℕ) (first : First) (none : packet_found first ≡ None) (is : first_frame bytes ≡ first) where
  none_ends : ends connection bytes ≡ is_broken first
  none_ends =
      ap (found_ends connection) (all_from_none packet_at packet_advances bytes (ap packet_found is ∙ none)) ∙ ap is_broken is

  none_rest : rest_of bytes ≡ bytes
  none_rest = ap (λ (found : List (List ℕ) × List ℕ). found.1) (all_from_none packet_at packet_advances bytes (ap packet_found is ∙ none))

module _ (connection : ℕ) (bytes : List ℕ) (job : Job) (rest : List ℕ) where
  -- after a job that ends nothing all is as with the rest alone
  rest_decides : next_by connection bytes (first_frame bytes) ≡ JobSeen job rest false
      → (ends connection bytes ≡ ends connection rest) × (rest_of bytes ≡ rest_of rest)
  rest_decides = by_first (first_frame bytes) refl
    where
      by_first : (first : First) → first_frame bytes ≡ first → next_by connection bytes first ≡ JobSeen job rest false
          → (ends connection bytes ≡ ends connection rest) × (rest_of bytes ≡ rest_of rest)
      by_first (Packet content others) is seen =
          let rest_is : others ≡ rest = cc in
          let ends_none : (job_in connection content).1 ≡ false = cc in (
            packet_ends connection bytes content others is
                ∙ ap (λ (b : Bool). cond b true (is_broken (first_frame (rest_of others))))
                (some_ends-on (job_in connection content) (map (job_in connection) (packets_of others)) ends_none)
                ∙ ap (ends connection) rest_is,
            packet_rest connection bytes content others is ∙ ap rest_of rest_is,
          )
      by_first NeedMore is seen = absurd cc
      by_first Broken is seen = absurd cc

  -- a job with which the connection ends
  job_ends : next_by connection bytes (first_frame bytes) ≡ JobSeen job rest true → ends connection bytes ≡ true
  job_ends = by_first (first_frame bytes) refl
    where
      by_first : (first : First) → first_frame bytes ≡ first → next_by connection bytes first ≡ JobSeen job rest true → ends connection bytes ≡ true
      by_first (Packet content others) is seen =
          let ends_here : (job_in connection content).1 ≡ true = cc in
          packet_ends connection bytes content others is
          ∙ ap (λ (b : Bool). cond b true (is_broken (first_frame (rest_of others))))
          (some_ends-end (job_in connection content) (map (job_in connection) (packets_of others)) ends_here)
      by_first NeedMore is seen = absurd cc
      by_first Broken is seen = none_ends connection bytes Broken refl is

-- where more is needed nothing ended, and all bytes wait
more_waits : (connection : ℕ) (bytes : List ℕ) → next_by connection bytes (first_frame bytes) ≡ MoreNeeded
    → (ends connection bytes ≡ false) × (rest_of bytes ≡ bytes)
more_waits connection bytes = by_first (first_frame bytes) refl
  where
    by_first : (first : First) → first_frame bytes ≡ first → next_by connection bytes first ≡ MoreNeeded
        → (ends connection bytes ≡ false) × (rest_of bytes ≡ bytes)
    by_first (Packet content rest) is seen = absurd cc
    by_first NeedMore is seen = (none_ends connection bytes NeedMore refl is, none_rest connection bytes NeedMore refl is)
    by_first Broken is seen = absurd cc

-- what a job leaves, whether or not the connection ends with it
left_after : (connection : ℕ) (bytes : List ℕ) (job : Job) (rest : List ℕ) (last : Bool) → next_by connection bytes (first_frame bytes) ≡ JobSeen job rest last
    → jobs_of connection bytes ≡ job ∷ (if last then [] else jobs_of connection rest)
left_after connection bytes job rest true seen = ends_there connection bytes job rest seen
left_after connection bytes job rest false seen = goes_on connection bytes job rest seen

ended_after : (connection : ℕ) (bytes : List ℕ) (job : Job) (rest : List ℕ) (last : Bool) → next_by connection bytes (first_frame bytes) ≡ JobSeen job rest last
    → (if last then true else ends connection rest) ≡ ends connection bytes
ended_after connection bytes job rest true seen = sym (job_ends connection bytes job rest seen)
ended_after connection bytes job rest false seen = sym (rest_decides connection bytes job rest seen).0

rest_after : (connection : ℕ) (bytes : List ℕ) (job : Job) (rest : List ℕ) (last : Bool) → next_by connection bytes (first_frame bytes) ≡ JobSeen job rest last
    → last ≡ false → rest_of rest ≡ rest_of bytes
rest_after connection bytes job rest true seen on = absurd cc
rest_after connection bytes job rest false seen on = sym (rest_decides connection bytes job rest seen).1

-- ---- a session

-- a session that tells a job has not ended
still_open : (ended : Bool) (next : NextSeen) (job : Job) (rest : List ℕ) (last : Bool) → (if ended then AllSeen else next) ≡ JobSeen job rest last
    → (ended ≡ false) × (next ≡ JobSeen job rest last)
still_open true next job rest last e = absurd cc
still_open false next job rest last e = (refl, e)

needs_still : (ended : Bool) (next : NextSeen) → (if ended then AllSeen else next) ≡ MoreNeeded → (ended ≡ false) × (next ≡ MoreNeeded)
needs_still true next e = absurd cc
needs_still false next e = (refl, e)

-- a job that a session tells can be asked
pub told_sound : (session : SessionState) (job : Job) (rest : List ℕ) (last : Bool) → next_of session ≡ JobSeen job rest last → IsJob job
told_sound session job rest last seen =
    job_is_sound session.connection session.rest job rest last
    (still_open session.ended (next_by session.connection session.rest (first_frame session.rest)) job rest last seen).1

-- a session that ended drops what came, of which nothing counts
jobs_while_open : (connection : ℕ) (rest : List ℕ) (last : Bool)
    → (if last then [] else jobs_of connection (if last then [] else rest)) ≡ (if last then [] else jobs_of connection rest)
jobs_while_open connection rest true = refl
jobs_while_open connection rest false = refl

end_while_open : (connection : ℕ) (rest : List ℕ) (last : Bool)
    → (if last then true else ends connection (if last then [] else rest)) ≡ (if last then true else ends connection rest)
end_while_open connection rest true = refl
end_while_open connection rest false = refl

rest_while_open : (rest bytes : List ℕ) (last : Bool) → (last ≡ false → rest_of rest ≡ rest_of bytes) → last ≡ false
    → rest_of (if last then [] else rest) ≡ rest_of bytes
rest_while_open rest bytes true same on = absurd cc
rest_while_open rest bytes false same on = same on

-- the session whose next packet was passed; and these replies wait
abbrev pub passed_with : SessionState → (rest : List ℕ) → (ends : Bool) → List Waiting → SessionState
passed_with session rest ends waiting = record session { rest = if ends then [] else rest; ended = ends; waiting = waiting }

pub session_with_reply : (now next after : SessionState) (rest : List ℕ) (last : Bool) (front : ℕ) (bytes packet : List ℕ)
    → next ≡ record now { rest = if last then [] else rest; ended = last }
    → after ≡ record next { waiting = next.waiting ++ record { front = front; reply = bytes } ∷ [] } → bytes ≡ packet
    → after ≡ passed_with now rest last (now.waiting ++ record { front = front; reply = packet } ∷ [])
session_with_reply now next after rest last front bytes packet is push same =
    push ∙ (λ i. record (is i) { waiting = (is i).waiting ++ record { front = front; reply = same i } ∷ [] })

module _ (now after : SessionState) (job : Job) (rest : List ℕ) (last : Bool) (waiting : List Waiting) (seen : next_of now ≡ JobSeen job rest last)
    (is : after ≡ passed_with now rest last waiting) where
  told : (now.ended ≡ false) × (next_by now.connection now.rest (first_frame now.rest) ≡ JobSeen job rest last)
  told = still_open now.ended (next_by now.connection now.rest (first_frame now.rest)) job rest last seen

  -- the jobs still to come begin with the one that is told
  pub next_left : jobs_left now ≡ job ∷ jobs_left after
  next_left =
      ap (λ (b : Bool). cond b [] (jobs_of now.connection now.rest)) told.0
      ∙ left_after now.connection now.rest job rest last told.1
      ∙ ap (λ (l : List Job). job ∷ l) (sym (ap jobs_left is ∙ jobs_while_open now.connection rest last))

  pub fewer_left : length (jobs_left after) < length (jobs_left now)
  fewer_left = omega (arith, ap length next_left)

  -- the connection ends where it did, and the same is left at the end
  pub next_ending : is_ending after ≡ is_ending now
  next_ending =
      ap is_ending is
      ∙ end_while_open now.connection rest last
      ∙ ended_after now.connection now.rest job rest last told.1
      ∙ sym (ap (λ (b : Bool). cond b true (ends now.connection now.rest)) told.0)

  pub next_rest : after.ended ≡ false → (now.ended ≡ false) × (rest_of after.rest ≡ rest_of now.rest)
  next_rest on = (
    told.0,
    ap (λ (s : SessionState). rest_of s.rest) is
        ∙ rest_while_open rest now.rest last (rest_after now.connection now.rest job rest last told.1) (sym (ap (λ (s : SessionState). s.ended) is) ∙ on),
  )

-- fewer jobs are still to come once one was passed, whatever reply waits
pub fewer_after : (now next after : SessionState) (job : Job) (rest : List ℕ) (last : Bool) (waiting : List Waiting) → next_of now ≡ JobSeen job rest last
    → next ≡ record now { rest = if last then [] else rest; ended = last } → after ≡ record next { waiting = waiting }
    → length (jobs_left after) < length (jobs_left now)
fewer_after now next after job rest last waiting seen is push =
    fewer_left now after job rest last waiting seen (push ∙ ap (λ (s : SessionState). record s { waiting = waiting }) is)

-- ---- where no further job is told

-- bytes tell a job, or more of them are needed
tells_something : (connection : ℕ) (bytes : List ℕ) (first : First) → next_by connection bytes first ≡ AllSeen → ⊥
tells_something connection bytes (Packet content rest) e = absurd cc
tells_something connection bytes NeedMore e = absurd cc
tells_something connection bytes Broken e = absurd cc

all_seen : (session : SessionState) (ended : Bool) → session.ended ≡ ended → next_of session ≡ AllSeen → session.ended ≡ true
all_seen session true is seen = is
all_seen session false is seen =
    absurd (tells_something session.connection session.rest (first_frame session.rest)
    (sym (ap (λ (b : Bool). cond b AllSeen (next_by session.connection session.rest (first_frame session.rest))) is) ∙ seen))

-- no job is left, the connection ends where it has ended, and all that is left waits for more
pub record IsDone (session : SessionState) : Type 0 where
  pub jobs : jobs_left session ≡ []
  pub ended : is_ending session ≡ session.ended
  pub rest : session.ended ≡ false → rest_of session.rest ≡ session.rest

module _ (session : SessionState) where
  -- no whole packet is left
  done_where_more : next_of session ≡ MoreNeeded → IsDone session
  done_where_more seen =
      let told = needs_still session.ended (next_by session.connection session.rest (first_frame session.rest)) seen in
      let waits = more_waits session.connection session.rest told.1 in
      record {
        jobs = ap (λ (b : Bool). cond b [] (jobs_of session.connection session.rest)) told.0 ∙ needs_more session.connection session.rest told.1;
        ended = ap (λ (b : Bool). cond b true (ends session.connection session.rest)) told.0 ∙ waits.0 ∙ sym told.0;
        rest = λ on. waits.1;
      }

  -- the connection ended
  done_where_ended : next_of session ≡ AllSeen → IsDone session
  done_where_ended seen =
      let told = all_seen session session.ended refl seen in
      record {
        jobs = ap (λ (b : Bool). cond b [] (jobs_of session.connection session.rest)) told;
        ended = ap (λ (b : Bool). cond b true (ends session.connection session.rest)) told ∙ sym told;
        rest = λ on. absurd cc;
      }

  -- no further job is told
  pub all_told : IsNoJob (next_of session) → IsDone session
  all_told = by_next (next_of session) refl
    where
      by_next : (next : NextSeen) → next_of session ≡ next → IsNoJob next → IsDone session
      by_next (JobSeen job rest ends) is none = absurd none
      by_next MoreNeeded is none = done_where_more is
      by_next AllSeen is none = done_where_ended is
