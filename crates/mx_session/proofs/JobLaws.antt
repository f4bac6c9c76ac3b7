-- The jobs of a connection's bytes: what stands first gives the first of them, and pieces give the jobs of the whole.
use Rattle.std.proofs.Common.{◌≡◌, ℕ, Bool, true, false, List, [], ◌∷◌, ◌++◌, map, None, refl, ap, ◌∙◌, inl, inr, ◌⊎◌}
use Rattle.std.specs.Prelude.{if◌then◌else◌}
use Rattle.std.proofs.lemmas.List.{map-append}
use Rattle.mx_msgpack.proofs.ReaderLaws.{all_from_none, all_from_some}
use Rattle.mx_frame.specs.Packets.{First, Packet, NeedMore, Broken, first_frame, packet_found, packet_at, packets_of, rest_of, is_broken, breaks_off}
use Rattle.mx_frame.proofs.FrameLaws.{packet_stays, none_stays, packet_advances, packets_of-append, rest_of-append, broken_stays}
use Rattle.mx_session.specs.declared.job.Job.{Job}
use Rattle.mx_session.specs.Jobs.{job_in, broken_job, up_to_end, jobs_of, some_ends, ends}
use Rattle.mx_session.specs.Sessions.{JobSeen, MoreNeeded, next_by}

-- ---- lists of jobs

-- a job that ends nothing, and one that ends the connection
up_to_end-on : (first : Job × Bool) (jobs : List (Job × Bool)) (last : List Job) → first.1 ≡ false → up_to_end (first ∷ jobs) last ≡ first.0 ∷ up_to_end jobs last
up_to_end-on (job, true) jobs last e = absurd cc
up_to_end-on (job, false) jobs last e = refl

up_to_end-end : (first : Job × Bool) (jobs : List (Job × Bool)) (last : List Job) → first.1 ≡ true → up_to_end (first ∷ jobs) last ≡ first.0 ∷ []
up_to_end-end (job, true) jobs last e = refl
up_to_end-end (job, false) jobs last e = absurd cc

-- after an end nothing counts
up_to_end-ended : (jobs more : List (Job × Bool)) (last other : List Job) → some_ends jobs ≡ true → up_to_end (jobs ++ more) other ≡ up_to_end jobs last
up_to_end-ended [] more last other e = absurd cc
up_to_end-ended ((job, true) ∷ jobs) more last other e = refl
up_to_end-ended ((job, false) ∷ jobs) more last other e = ap (λ (l : List Job). job ∷ l) (up_to_end-ended jobs more last other e)

-- without an end all count
up_to_end-append : (jobs more : List (Job × Bool)) (last : List Job) → some_ends jobs ≡ false → up_to_end (jobs ++ more) last ≡ up_to_end jobs [] ++ up_to_end more last
up_to_end-append [] more last e = refl
up_to_end-append ((job, true) ∷ jobs) more last e = absurd cc
up_to_end-append ((job, false) ∷ jobs) more last e = ap (λ (l : List Job). job ∷ l) (up_to_end-append jobs more last e)

-- ---- what stands first

-- the last job of a connection, where a size that no packet may have follows its packets
abbrev last_of : (connection : ℕ) → Bool → List Job
last_of connection breaks = if breaks then broken_job connection ∷ [] else []

abbrev packet_jobs : (connection : ℕ) → List ℕ → List (Job × Bool)
packet_jobs connection bytes = map (job_in connection) (packets_of bytes)

abbrev found_jobs : (connection : ℕ) → List (List ℕ) × List ℕ → List Job
found_jobs connection found = up_to_end (map (job_in connection) found.0) (last_of connection (is_broken (first_frame found.1)))

packet_first : (connection : ℕ) (bytes content rest : List ℕ) → first_frame bytes ≡ Packet content rest
    → jobs_of connection bytes ≡ up_to_end (job_in connection content ∷ packet_jobs connection rest) (last_of connection (breaks_off rest))
packet_first connection bytes content rest e = ap (found_jobs connection) (all_from_some packet_at packet_advances bytes (content, rest) (ap packet_found e))

none_first : (connection : ℕ) (bytes : List ℕ) (first : First) → packet_found first ≡ None → first_frame bytes ≡ first
    → jobs_of connection bytes ≡ last_of connection (is_broken first)
none_first connection bytes first none e =
    ap (found_jobs connection) (all_from_none packet_at packet_advances bytes (ap packet_found e ∙ none))
    ∙ ap (λ (first : First). last_of connection (is_broken first)) e

module _ (connection : ℕ) (bytes : List ℕ) (job : Job) (rest : List ℕ) where
  goes_on_with : (first : First) → first_frame bytes ≡ first → next_by connection bytes first ≡ JobSeen job rest false
      → jobs_of connection bytes ≡ job ∷ jobs_of connection rest
  goes_on_with (Packet content others) is seen =
      let rest_is : others ≡ rest = cc in
      let job_is : (job_in connection content).0 ≡ job = cc in
      packet_first connection bytes content others is
      ∙ up_to_end-on (job_in connection content) (packet_jobs connection others) (last_of connection (breaks_off others)) (cc)
      ∙ rw (rest_is, job_is) refl
  goes_on_with NeedMore is seen = absurd cc
  goes_on_with Broken is seen = absurd cc

  pub goes_on : next_by connection bytes (first_frame bytes) ≡ JobSeen job rest false → jobs_of connection bytes ≡ job ∷ jobs_of connection rest
  goes_on = goes_on_with (first_frame bytes) refl

  ends_with : (first : First) → first_frame bytes ≡ first → next_by connection bytes first ≡ JobSeen job rest true → jobs_of connection bytes ≡ job ∷ []
  ends_with (Packet content others) is seen =
      let job_is : (job_in connection content).0 ≡ job = cc in
      packet_first connection bytes content others is
      ∙ up_to_end-end (job_in connection content) (packet_jobs connection others) (last_of connection (breaks_off others)) (cc)
      ∙ rw job_is refl
  ends_with NeedMore is seen = absurd cc
  ends_with Broken is seen = none_first connection bytes Broken refl is ∙ cc

  pub ends_there : next_by connection bytes (first_frame bytes) ≡ JobSeen job rest true → jobs_of connection bytes ≡ job ∷ []
  ends_there = ends_with (first_frame bytes) refl

pub needs_more : (connection : ℕ) (bytes : List ℕ) → next_by connection bytes (first_frame bytes) ≡ MoreNeeded → jobs_of connection bytes ≡ []
needs_more connection bytes = by_first (first_frame bytes) refl
  where
    by_first : (first : First) → first_frame bytes ≡ first → next_by connection bytes first ≡ MoreNeeded → jobs_of connection bytes ≡ []
    by_first (Packet content rest) is seen = absurd cc
    by_first NeedMore is seen = none_first connection bytes NeedMore refl is
    by_first Broken is seen = absurd cc

-- ---- pieces

pub next_stays : (connection : ℕ) (bytes more : List ℕ) (job : Job) (rest : List ℕ) (ends : Bool) → next_by connection bytes (first_frame bytes) ≡ JobSeen job rest ends
    → next_by connection (bytes ++ more) (first_frame (bytes ++ more)) ≡ JobSeen job (rest ++ more) ends
next_stays connection bytes more job rest ends = by_first (first_frame bytes) refl
  where
    by_first : (first : First) → first_frame bytes ≡ first → next_by connection bytes first ≡ JobSeen job rest ends
        → next_by connection (bytes ++ more) (first_frame (bytes ++ more)) ≡ JobSeen job (rest ++ more) ends
    by_first (Packet content others) is seen =
        let rest_is : others ≡ rest = cc in
        ap (next_by connection (bytes ++ more)) (packet_stays bytes more content others is) ∙ rw (← rest_is) cc
    by_first NeedMore is seen = absurd cc
    by_first Broken is seen =
        let rest_is : bytes ≡ rest = cc in
        ap (next_by connection (bytes ++ more)) (none_stays bytes more is) ∙ rw (← rest_is) cc

-- a test that one of two holds
either_holds : (a b : Bool) → (if a then true else b) ≡ true → (a ≡ true) ⊎ ((a ≡ false) × (b ≡ true))
either_holds true b e = inl refl
either_holds false b e = inr (refl, e)

neither_holds : (a b : Bool) → (if a then true else b) ≡ false → (a ≡ false) × (b ≡ false)
neither_holds true b e = absurd cc
neither_holds false b e = (refl, e)

module _ (connection : ℕ) (bytes more : List ℕ) where
  -- the jobs of the bytes and of a further piece, the last one apart
  in_two : (last : List Job) → up_to_end (packet_jobs connection (bytes ++ more)) last
      ≡ up_to_end (packet_jobs connection bytes ++ packet_jobs connection (rest_of bytes ++ more)) last
  in_two last =
      ap (λ (packets : List (List ℕ)). up_to_end (map (job_in connection) packets) last) (packets_of-append bytes more)
      ∙ ap (λ (jobs : List (Job × Bool)). up_to_end jobs last) (map-append (job_in connection) (packets_of bytes) (packets_of (rest_of bytes ++ more)))

  pub nothing_after_the_end : ends connection bytes ≡ true → jobs_of connection (bytes ++ more) ≡ jobs_of connection bytes
  nothing_after_the_end ended = by_cause (either_holds (some_ends (packet_jobs connection bytes)) (breaks_off bytes) ended)
    where
      by_cause : (some_ends (packet_jobs connection bytes) ≡ true)
          ⊎ ((some_ends (packet_jobs connection bytes) ≡ false) × (breaks_off bytes ≡ true)) → jobs_of connection (bytes ++ more) ≡ jobs_of connection bytes
      by_cause (inl some) =
          in_two (last_of connection (breaks_off (bytes ++ more)))
          ∙ up_to_end-ended (packet_jobs connection bytes) (packet_jobs connection (rest_of bytes ++ more))
          (last_of connection (breaks_off bytes)) (last_of connection (breaks_off (bytes ++ more))) some
      by_cause (inr breaks) = let stays = broken_stays bytes more breaks.1 in rw (stays.0, stays.1, breaks.1) refl

  pub in_pieces : ends connection bytes ≡ false → jobs_of connection (bytes ++ more) ≡ jobs_of connection bytes ++ jobs_of connection (rest_of bytes ++ more)
  in_pieces on =
      let neither = neither_holds (some_ends (packet_jobs connection bytes)) (breaks_off bytes) on in
      let same_end : breaks_off (bytes ++ more) ≡ breaks_off (rest_of bytes ++ more) = ap (λ (l : List ℕ). is_broken (first_frame l)) (rest_of-append bytes more) in
      in_two (last_of connection (breaks_off (bytes ++ more)))
      ∙ up_to_end-append (packet_jobs connection bytes) (packet_jobs connection (rest_of bytes ++ more))
      (last_of connection (breaks_off (bytes ++ more))) neither.0
      ∙ rw (same_end, neither.1) refl
