-- In which order the steps for the units of an input come.
use Rattle.std.specs.Prelude.{◌≡◌, ℕ, zero, suc, Bool, List, [], ◌∷◌, ◌++◌, if◌then◌else◌}
use Rattle.mx_session.specs.declared.job.Job.{Job}
use Rattle.mx_serial.specs.Order.{Step, RequestStep, DepartureStep, TakeStep, ConfirmStep}
use Rattle.mx_node.specs.Inputs.{InputUnit, connection_of, max_connection}
use Rattle.mx_node.specs.Connections.{came_on, is_open, jobs_by, is_ended_by}

-- the requests of these jobs, in order
abbrev pub requests_of : List Job → List Step
requests_of [] = []
requests_of (job ∷ jobs) = RequestStep job.name job.ask ∷ requests_of jobs

-- the steps for the jobs that a unit brings: they are answered, one after the other, and then all that was committed is written
-- out, once
abbrev pub written_out : List Job → List Step
written_out [] = []
written_out (job ∷ jobs) = requests_of (job ∷ jobs) ++ TakeStep ∷ ConfirmStep ∷ []

-- a connection's departure, where it departs
abbrev pub departure_where : (connection : ℕ) → Bool → List Step
departure_where connection departs = if departs then DepartureStep connection ∷ [] else []

-- These are the steps for a unit, after earlier ones: those for its jobs, and its connection's departure, where it ends it.
abbrev pub AreStepsFor : (earlier : List InputUnit) → InputUnit → List Step → Type 0
AreStepsFor earlier unit steps = steps ≡ written_out (jobs_by earlier unit) ++ departure_where (connection_of unit) (is_ended_by earlier unit)

abbrev pub AreStepsFrom : (earlier : List InputUnit) → List InputUnit → List Step → Type 0
AreStepsFrom earlier [] steps = steps ≡ []
AreStepsFrom earlier (unit ∷ units) steps =
    (first others : List Step) × (steps ≡ first ++ others) × AreStepsFor earlier unit first × AreStepsFrom (earlier ++ unit ∷ []) units others

-- these are the steps for the units, one unit after the other
abbrev pub AreStepsOf : List InputUnit → List Step → Type 0
AreStepsOf units steps = AreStepsFrom [] units steps

-- so many connections from this one on depart, in ascending order, where they are open
abbrev pub departures_from : (connection count : ℕ) → List InputUnit → List Step
departures_from connection zero units = []
departures_from connection (suc count) units =
    departure_where connection (is_open connection (came_on connection units)) ++ departures_from (suc connection) count units

-- the connections that depart when the input ends
abbrev pub departures_of : List InputUnit → List Step
departures_of units = departures_from 0 (suc max_connection) units

-- these are the steps for an input that ends after the units: those for the units, and then the departures
abbrev pub AreWholeSteps : List InputUnit → List Step → Type 0
AreWholeSteps units steps = (first : List Step) × AreStepsOf units first × (steps ≡ first ++ departures_of units)
