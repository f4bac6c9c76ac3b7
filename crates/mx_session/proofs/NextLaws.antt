-- A job that comes next and doesn't end the connection is a packet's.
use Rattle.std.proofs.Common.{◌≡◌, ℕ, Bool, true, false, List, refl, ap, ◌∙◌}
use Rattle.std.specs.Prelude.{if◌then◌else◌}
use Rattle.mx_frame.specs.Packets.{First, Packet, NeedMore, Broken, first_frame}
use Rattle.mx_session.specs.declared.job.Job.{Job}
use Rattle.mx_session.specs.JobViews.{IsJobNext}
use Rattle.mx_session.specs.Sessions.{SessionState, JobSeen, AllSeen, next_by}

module _ (connection : ℕ) (bytes : List ℕ) (job : Job) (rest : List ℕ) where
  first_packet : (first : First) → first_frame bytes ≡ first → next_by connection bytes first ≡ JobSeen job rest false
      → (content after : List ℕ) × (first_frame bytes ≡ Packet content after)
  first_packet (Packet content after) is seen = (content, after, is)
  first_packet NeedMore is seen = absurd cc
  first_packet Broken is seen = absurd cc

  next_packet : (ended : Bool) → (if ended then AllSeen else next_by connection bytes (first_frame bytes)) ≡ JobSeen job rest false
      → (content after : List ℕ) × (first_frame bytes ≡ Packet content after)
  next_packet true seen = absurd cc
  next_packet false seen = first_packet (first_frame bytes) refl seen

-- a job that comes next, and doesn't end the connection, is a packet's
pub packet_next : (session : SessionState) (ends : Bool) → IsJobNext session ends → ends ≡ false
    → (content after : List ℕ) × (first_frame session.rest ≡ Packet content after)
packet_next session ends (job, rest, seen) on = next_packet session.connection session.rest job rest session.ended (seen ∙ ap (JobSeen job rest) on)
