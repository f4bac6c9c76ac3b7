-- What a connection's bytes come to in pieces: its jobs, its end and what is left. And jobs can be asked.
use Rattle.std.proofs.Common.{◌≡◌, ℕ, Bool, true, false, cond, List, [], ◌∷◌, ◌++◌, map, Option, Some, None, Result, Ok, Err, refl, sym, ap, ◌∙◌, subst, inl, inr, ◌⊎◌}
use Rattle.std.specs.Prelude.{if◌then◌else◌}
use Rattle.std.proofs.lemmas.List.{append_assoc, map-append}
use Rattle.mx_msgpack.specs.Maps.{pairs_in}
use Rattle.mx_base.specs.declared.refusal.Refusal.{Refusal}
use Rattle.mx_frame.specs.Packets.{First, Packet, NeedMore, Broken, size_at, first_frame, packets_of, rest_of, is_broken, breaks_off}
use Rattle.mx_frame.proofs.FrameLaws.{packets_of-append, rest_of-append, broken_stays}
use Rattle.mx_request.specs.declared.request.Head3.{Head3}
use Rattle.mx_request.specs.declared.request.Request.{Request}
use Rattle.mx_request.specs.Packets.{maps_in, packet_by, request_only}
use Rattle.mx_request.specs.Requests.{request_in}
use Rattle.mx_request.proofs.AskableLaws.{asked_is_askable}
use Rattle.mx_session.specs.declared.job.Job.{Job}
use Rattle.mx_session.specs.Jobs.{ask_of, job_in, broken_job, jobs_of, some_ends, ends}
use Rattle.mx_session.specs.Sessions.{JobSeen, next_by}
use Rattle.mx_session.proofs.JobLaws.{nothing_after_the_end, in_pieces}
use Rattle.mx_link.specs.Asks.{IsJob, IsSoundAsk}

-- ---- one piece more

some_ends-append : (jobs more : List (Job × Bool)) → some_ends jobs ≡ false → some_ends (jobs ++ more) ≡ some_ends more
some_ends-append [] more e = refl
some_ends-append ((job, true) ∷ jobs) more e = absurd cc
some_ends-append ((job, false) ∷ jobs) more e = some_ends-append jobs more e

some_ends-stays : (jobs more : List (Job × Bool)) → some_ends jobs ≡ true → some_ends (jobs ++ more) ≡ true
some_ends-stays [] more e = absurd cc
some_ends-stays ((job, true) ∷ jobs) more e = refl
some_ends-stays ((job, false) ∷ jobs) more e = some_ends-stays jobs more e

-- a test that one of two holds
either_holds : (a b : Bool) → cond a true b ≡ true → (a ≡ true) ⊎ (b ≡ true)
either_holds true b e = inl refl
either_holds false b e = inr e

neither_holds : (a b : Bool) → cond a true b ≡ false → (a ≡ false) × (b ≡ false)
neither_holds true b e = absurd cc
neither_holds false b e = (refl, e)

holds_also : (a b : Bool) → b ≡ true → cond a true b ≡ true
holds_also true b e = refl
holds_also false b e = e

abbrev packet_jobs : (on : ℕ) → List ℕ → List (Job × Bool)
packet_jobs on bytes = map (job_in on) (packets_of bytes)

module _ (on : ℕ) (came bytes : List ℕ) where
  in_two : packet_jobs on (came ++ bytes) ≡ packet_jobs on came ++ packet_jobs on (rest_of came ++ bytes)
  in_two = ap (λ (packets : List (List ℕ)). map (job_in on) packets) (packets_of-append came bytes)
      ∙ map-append (job_in on) (packets_of came) (packets_of (rest_of came ++ bytes))

  -- before the end a piece ends the connection where it does so with what was left
  pub ends-piece : ends on came ≡ false → ends on (came ++ bytes) ≡ ends on (rest_of came ++ bytes)
  ends-piece goes_on =
      let neither = neither_holds (some_ends (packet_jobs on came)) (breaks_off came) goes_on in
      let some : some_ends (packet_jobs on (came ++ bytes)) ≡ some_ends (packet_jobs on (rest_of came ++ bytes)) =
      ap some_ends in_two ∙ some_ends-append (packet_jobs on came) (packet_jobs on (rest_of came ++ bytes)) neither.0 in
      let breaks : breaks_off (came ++ bytes) ≡ breaks_off (rest_of came ++ bytes) = ap (λ (l : List ℕ). is_broken (first_frame l)) (rest_of-append came bytes) in
      ap (λ (b : Bool). cond b true (breaks_off (came ++ bytes))) some
      ∙ ap (cond (some_ends (packet_jobs on (rest_of came ++ bytes))) true) breaks

  -- an end stays
  pub ends-stays : ends on came ≡ true → ends on (came ++ bytes) ≡ true
  ends-stays ended = by_cause (either_holds (some_ends (packet_jobs on came)) (breaks_off came) ended)
    where
      by_cause : (some_ends (packet_jobs on came) ≡ true) ⊎ (breaks_off came ≡ true) → ends on (came ++ bytes) ≡ true
      by_cause (inl some) =
          ap (λ (b : Bool). cond b true (breaks_off (came ++ bytes)))
          (ap some_ends in_two ∙ some_ends-stays (packet_jobs on came) (packet_jobs on (rest_of came ++ bytes)) some)
      by_cause (inr breaks) = holds_also (some_ends (packet_jobs on (came ++ bytes))) (breaks_off (came ++ bytes)) (broken_stays came bytes breaks).0

-- ---- before the first piece

pub rest_of-nothing : rest_of [] ≡ []
rest_of-nothing = refl

pub ends-nothing : (on : ℕ) → ends on [] ≡ false
unfolding first_frame size_at
ends-nothing on = refl

pub jobs_of-nothing : (on : ℕ) → jobs_of on [] ≡ []
unfolding first_frame size_at
jobs_of-nothing on = refl

-- ---- what is left of the pieces so far

-- of the bytes that came these jobs were taken, the connection ended with one of them or didn't, and these bytes are left
pub record IsRemainder (on : ℕ) (came : List ℕ) (taken : List Job) (ended : Bool) (left : List ℕ) : Type 0 where
  pub jobs : taken ++ (if ended then [] else jobs_of on left) ≡ jobs_of on came
  pub over : (if ended then true else ends on left) ≡ ends on came
  pub rest : ended ≡ false → rest_of left ≡ rest_of came

module _ (on : ℕ) (came piece : List ℕ) (taken : List Job) (left : List ℕ) where
  -- a piece more, which is dropped where the connection has ended
  pub remainder_more : (ended : Bool) → IsRemainder on came taken ended left → IsRemainder on (came ++ piece) taken ended (if ended then left else left ++ piece)
  remainder_more true before = record {
    jobs = before.jobs ∙ sym (nothing_after_the_end on came piece (sym before.over));
    over = sym (ends-stays on came piece (sym before.over));
    rest = λ open_still. absurd cc;
  }
  remainder_more false before = by_end (ends on left) refl
    where
      same_rest : rest_of (left ++ piece) ≡ rest_of (came ++ piece)
      same_rest =
          rest_of-append left piece
          ∙ ap (λ (l : List ℕ). rest_of (l ++ piece)) (before.rest refl)
          ∙ sym (rest_of-append came piece)

      by_end : (b : Bool) → ends on left ≡ b → IsRemainder on (came ++ piece) taken false (left ++ piece)
      by_end true ends_there =
          let ended : ends on came ≡ true = sym before.over ∙ ends_there in
          record {
            jobs = ap (λ (l : List Job). taken ++ l) (nothing_after_the_end on left piece ends_there)
                ∙ before.jobs
                ∙ sym (nothing_after_the_end on came piece ended);
            over = ends-stays on left piece ends_there ∙ sym (ends-stays on came piece ended);
            rest = λ _. same_rest;
          }
      by_end false goes_on =
          let going : ends on came ≡ false = sym before.over ∙ goes_on in
          record {
            jobs = ap (λ (l : List Job). taken ++ l) (in_pieces on left piece goes_on)
                ∙ sym (append_assoc taken (jobs_of on left) (jobs_of on (rest_of left ++ piece)))
                ∙ ap (λ (l : List Job). l ++ jobs_of on (rest_of left ++ piece)) before.jobs
                ∙ ap (λ (l : List ℕ). jobs_of on came ++ jobs_of on (l ++ piece)) (before.rest refl)
                ∙ sym (in_pieces on came piece going);
            over = ends-piece on left piece goes_on
                ∙ ap (λ (l : List ℕ). ends on (l ++ piece)) (before.rest refl)
                ∙ sym (ends-piece on came piece going);
            rest = λ _. same_rest;
          }

-- ---- jobs can be asked

sound_packet : (on : ℕ) (packet : List ℕ) → IsJob (job_in on packet).0
sound_packet on packet = by_maps (maps_in packet)
  where
    by_asked : (header body : List ℕ) (asked : Result (Head3 × Request) Refusal) → request_in (pairs_in header) (pairs_in body) ≡ asked
        → IsSoundAsk (ask_of (Some (request_only asked)))
    by_asked header body (Ok (head, request)) e = (asked_is_askable header body head request e).0
    by_asked header body (Err refusal) e = tt

    by_maps : (maps : Option (List ℕ × List ℕ)) → IsSoundAsk (ask_of (packet_by packet maps).asked)
    by_maps None = tt
    by_maps (Some (header, body)) = by_asked header body (request_in (pairs_in header) (pairs_in body)) refl

pub job_is_sound : (connection : ℕ) (bytes : List ℕ) (job : Job) (rest : List ℕ) (last : Bool)
    → next_by connection bytes (first_frame bytes) ≡ JobSeen job rest last → IsJob job
job_is_sound connection bytes job rest last = by_first (first_frame bytes)
  where
    by_first : (first : First) → next_by connection bytes first ≡ JobSeen job rest last → IsJob job
    by_first (Packet content others) seen = let is : (job_in connection content).0 ≡ job = cc in subst (λ (j : Job). IsJob j) is (sound_packet connection content)
    by_first NeedMore seen = absurd cc
    by_first Broken seen = let is : broken_job connection ≡ job = cc in subst (λ (j : Job). IsJob j) is tt
