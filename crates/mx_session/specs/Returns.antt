-- What the next call of a session returns.
use Rattle.std.specs.Prelude.{◌≡◌, ℕ, Bool, List, [], Result, Ok, Err, if◌then◌else◌}
use Rattle.std.specs.declared.alloc.AllocError.{AllocError}
use Rattle.mx_session.specs.declared.session.Next.{Next}
use Rattle.mx_session.specs.declared.session.Next.TheVariants as next
use Rattle.mx_session.specs.Sessions.{SessionState, JobSeen, MoreNeeded, AllSeen, next_of}

-- exactly what comes next, which is then taken off, and at the end all that came; all is as before when out of memory
abbrev pub ReturnsNext : Result Next AllocError → (old new : SessionState) → Type 0
ReturnsNext (Ok (next.Job job)) old new =
    (rest : List ℕ) × (ends : Bool) × (next_of old ≡ JobSeen job rest ends) × (new ≡ record old { rest = if ends then [] else rest; ended = ends })
ReturnsNext (Ok next.NeedMore) old new = (next_of old ≡ MoreNeeded) × (new ≡ old)
ReturnsNext (Ok next.Ended) old new = (next_of old ≡ AllSeen) × (new ≡ old)
ReturnsNext (Err error) old new = new ≡ old
