-- What the packets of a connection come to: a job each, up to and with the first one whose bytes aren't one or two maps.
use Rattle.std.specs.Prelude.{ℕ, Bool, true, false, List, [], ◌∷◌, map, Option, Some, None, Result, Ok, Err, if◌then◌else◌}
use Rattle.mx_base.specs.declared.refusal.Refusal.{Refusal}
use Rattle.mx_base.specs.declared.refusal.Refusal.TheVariants.{NotMessagePack}
use Rattle.mx_frame.specs.Packets.{packets_of, breaks_off}
use Rattle.mx_request.specs.declared.request.Ask.{Ask}
use Rattle.mx_request.specs.declared.request.Ask.TheVariants as ask
use Rattle.mx_request.specs.declared.request.Request as request
use Rattle.mx_request.specs.Packets.{PacketAsks, packet_in}
use Rattle.mx_session.specs.declared.job.Job.{Job}

-- what a packet asks of the database: a request, or nothing, as it is refused before
abbrev pub ask_of : Option (Result request.Request Refusal) → Ask
ask_of None = ask.Refused NotMessagePack
ask_of (Some (Ok request)) = ask.Request request
ask_of (Some (Err refusal)) = ask.Refused refusal

-- a packet that isn't one or two maps ends its connection
abbrev pub ends_with : Option (Result request.Request Refusal) → Bool
ends_with None = true
ends_with (Some asked) = false

abbrev pub job_with : (connection stream sync : ℕ) → Ask → Job
job_with connection stream sync ask = record {
  name = record { conn = record { 0 = connection }; stream = record { 0 = stream } };
  sync = record { 0 = sync };
  ask = ask;
}

-- the job of what a packet asks, and whether the connection ends with it
abbrev pub job_of : (connection : ℕ) → PacketAsks → Job × Bool
job_of connection packet = (job_with connection packet.stream packet.sync (ask_of packet.asked), ends_with packet.asked)

-- the job of a packet, and whether the connection ends with it
abbrev pub job_in : (connection : ℕ) → (packet : List ℕ) → Job × Bool
job_in connection packet = job_of connection (packet_in packet)

-- the job of a size that no packet may have
abbrev pub broken_job : (connection : ℕ) → Job
broken_job connection = job_with connection 0 0 (ask.Refused NotMessagePack)

-- the jobs up to and with the first that ends the connection, or these at the end
abbrev pub up_to_end : List (Job × Bool) → List Job → List Job
up_to_end [] last = last
up_to_end ((job, true) ∷ jobs) last = job ∷ []
up_to_end ((job, false) ∷ jobs) last = job ∷ up_to_end jobs last

-- the jobs of all bytes that came on a connection
abbrev pub jobs_of : (connection : ℕ) → List ℕ → List Job
jobs_of connection bytes = up_to_end (map (job_in connection) (packets_of bytes)) (if breaks_off bytes then broken_job connection ∷ [] else [])

abbrev pub some_ends : List (Job × Bool) → Bool
some_ends [] = false
some_ends ((job, true) ∷ jobs) = true
some_ends ((job, false) ∷ jobs) = some_ends jobs

-- the connection ended with one of these jobs
abbrev pub ends : (connection : ℕ) → List ℕ → Bool
ends connection bytes = if some_ends (map (job_in connection) (packets_of bytes)) then true else breaks_off bytes
