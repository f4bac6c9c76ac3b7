-- What the units of an input bring to its connections: bytes, by them jobs, and their ends.
use Rattle.std.specs.Prelude.{◌≡◌, ⊤, ℕ, Bool, false, not, ◌&&◌, List, [], ◌∷◌, ◌++◌, length, drop, ◌==◌, if◌then◌else◌}
use Rattle.mx_session.specs.declared.job.Job.{Job}
use Rattle.mx_session.specs.Jobs.{jobs_of, ends}
use Rattle.mx_node.specs.Inputs.{InputUnit, Bytes, Close}

-- what came on a connection since it was opened, after a further unit: nothing after a close
abbrev pub came_after : (connection : ℕ) → List ℕ → InputUnit → List ℕ
came_after connection came (Bytes on bytes) = if on == connection then came ++ bytes else came
came_after connection came (Close on) = if on == connection then [] else came

abbrev pub came_from : (connection : ℕ) → List ℕ → List InputUnit → List ℕ
came_from connection came [] = came
came_from connection came (unit ∷ units) = came_from connection (came_after connection came unit) units

-- the bytes that came on a connection since it was opened: none where it wasn't, since its first byte opens it
abbrev pub came_on : (connection : ℕ) → List InputUnit → List ℕ
came_on connection units = came_from connection [] units

-- the connection is there: a byte came, and no packet that ended it
abbrev pub is_open : (connection : ℕ) → List ℕ → Bool
is_open connection [] = false
is_open connection (byte ∷ bytes) = not (ends connection (byte ∷ bytes))

-- what a list has gained at its end
abbrev pub gained : {X : Type 0} → List X → List X → List X
gained before after = drop (length before) after

-- the jobs that a unit brings, after earlier units: those that its connection gains
abbrev pub jobs_by : List InputUnit → InputUnit → List Job
jobs_by earlier (Bytes on bytes) = gained (jobs_of on (came_on on earlier)) (jobs_of on (came_on on earlier ++ bytes))
jobs_by earlier (Close on) = []

-- the unit ends its connection: by a packet, or by the close
abbrev pub is_ended_by : List InputUnit → InputUnit → Bool
is_ended_by earlier (Bytes on bytes) = not (ends on (came_on on earlier)) && ends on (came_on on earlier ++ bytes)
is_ended_by earlier (Close on) = is_open on (came_on on earlier)

-- each of these jobs came on the connection
abbrev pub AreOf : (connection : ℕ) → List Job → Type 0
AreOf connection [] = ⊤
AreOf connection (job ∷ jobs) = (job.name.conn.0 ≡ connection) × AreOf connection jobs
