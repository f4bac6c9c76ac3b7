-- Only private functions and proofs need these: how far a run has come, in its input and in its output.
use Rattle.std.specs.Prelude.{◌≡◌, ℕ, ◌+◌, ◌<◌, List, [], ◌∷◌, ◌++◌, length, Option, Some, None, Result, Ok, Err, IsSomeAnd}
use Rattle.mx_msgpack.specs.Readers.{all_from}
use Rattle.mx_outside.specs.Disks.{Disk, IfKnown}
use Rattle.mx_node.specs.declared.out_units.OutUnit.{OutUnit}
use Rattle.mx_model.specs.Histories.{History}
use Rattle.mx_serial.specs.Order.{order_in}
use Rattle.mx_serial.specs.Gate.{RepliesMayLeave}
use Rattle.mx_node.specs.declared.single.Single.{Single}
use Rattle.mx_top.specs.declared.status.Status.{Status}
use Rattle.mx_top.specs.declared.status.Status.TheVariants as status
use Rattle.mx_top.specs.Stops.{IsReadStop}
use Rattle.mx_top.specs.declared.stop.Stop.{Stop}
use Rattle.mx_top.specs.declared.stop.Stop.TheVariants.{BadInput, ReadFault, WriteFault, DiskFault, NoMemory}
use Rattle.mx_top.specs.Units.{content_at, unit_at, units_of}
use Rattle.mx_node.specs.Inputs.{InputUnit}
use Rattle.mx_node.specs.Order.{AreWholeSteps}
use Rattle.mx_node.specs.Outputs.{AnswersAll}
use Rattle.mx_top.specs.TraceOutput.{units_text}
use Rattle.mx_node.specs.Serving.{AnswersUnit, Serves, DirectoryHolds}
use Rattle.mx_node.specs.Starts.{Start}
use Rattle.mx_node.specs.Interrupted.{IsInterrupted}
use Rattle.mx_directory.specs.Survival.{Lasts}
use Rattle.mx_top.specs.Runs.{AtCompletion, AnswersRead, AreStepsUntil, Held, OutputSeen, PlaceSeen, StillPassedOn}

-- What stops a run that awaits the unit at this place, where these bytes of it wait and more are left. Where they could not be
-- read, no whole unit waits.
abbrev pub StopsAt : (place : ℕ) → (waiting more : List ℕ) → Stop → Type 0
StopsAt place waiting more (BadInput at) = (at ≡ place) × (content_at place (waiting ++ more) ≡ None) × (0 < length (waiting ++ more))
StopsAt place waiting more ReadFault = content_at place waiting ≡ None
StopsAt place waiting more stop = IsReadStop stop

abbrev pub after_units : List InputUnit → List InputUnit × List ℕ → List InputUnit × List ℕ
after_units units others = (units ++ others.0, others.1)

-- up to this place these bytes are these units, and then comes the rest of them
pub record ReadTo (bytes rest : List ℕ) (place : ℕ) (units : List InputUnit) : Type 0 where
  pub all : units_of bytes ≡ after_units units (all_from (unit_at (length bytes)) rest)
  pub at : place + length rest ≡ length bytes

-- The input was read but for what is left. Up to this place the bytes that were read are these units, and those after it wait.
pub record Consumed (input waiting left : List ℕ) (place : ℕ) (units : List InputUnit) : Type 0 where
  pub bytes : List ℕ
  pub all : input ≡ bytes ++ left
  pub read : ReadTo bytes waiting place units

-- the status of a run that this stopped
abbrev pub status_of_stop : Stop → Status
status_of_stop (BadInput at) = status.BadInput at
status_of_stop ReadFault = status.ReadFault
status_of_stop WriteFault = status.WriteFault
status_of_stop DiskFault = status.DiskFault
status_of_stop NoMemory = status.NoMemory

-- the status of a run whose units ended so
abbrev pub status_of : Result (Unit {0}) Stop → Status
status_of (Ok done) = status.Ok
status_of (Err stop) = status_of_stop stop

-- these units were answered, and all of the output for them was written and passed on, since the output was as it was first and
-- the directory had its first states
pub record Wrote (start : Start) (server : Single) (units : List InputUnit) (output now : Held) (first states : Option (List Disk)) : Type 0 where
  pub history : History
  pub sent : List OutUnit
  pub serves : Serves start server units history states
  pub answers : AnswersAll start units history sent
  pub written : (before : List ℕ) → output.contents ≡ Some before → now.contents ≡ Some (before ++ units_text sent)
  pub passed : StillPassedOn output.passed output.contents now.passed now.contents
  pub lasts : Lasts start.base history first states

-- all units of the input were answered so, and where it is known what is left of the input, the bytes before that hold them whole
pub record WroteAll (start : Start) (input : List ℕ) (left : Option (List ℕ)) (server : Single) (output now : Held)
    (first states : Option (List Disk)) : Type 0 where
  pub wrote : Wrote start server (units_of input).0 output now first states
  pub consumed : (rest : List ℕ) → left ≡ Some rest → AnswersRead status.Ok (units_of input).0 input rest

-- These units of the input were answered whole, and no other one was begun but the next. At the end of the input the directory
-- holds what was committed.
pub record UnitsSeen (status : Status) (start : Start) (input : List ℕ) (left : Option (List ℕ)) (output now : Held)
    (first states : Option (List Disk)) : Type 0 where
  pub units : List InputUnit
  pub others : List InputUnit
  pub all : units ++ others ≡ (units_of input).0
  pub consumed : (rest : List ℕ) → left ≡ Some rest → AnswersRead status units input rest
  pub answered : History
  pub sent : List OutUnit
  pub answers : AnswersAll start units answered sent
  pub gate : RepliesMayLeave start.base answered
  pub stopped : IsInterrupted start.base answered (AreStepsUntil units others) first states
  pub complete : AtCompletion status ((others ≡ []) × AreWholeSteps units (order_in (stopped.later ++ answered)))
  pub holds : AtCompletion status (IfKnown states (λ disk past. DirectoryHolds start.base (stopped.later ++ answered) disk))
  pub written : (before : List ℕ) → output.contents ≡ Some before
      → IsSomeAnd now.contents (λ after. OutputSeen status start units answered (stopped.later ++ answered) sent before after output.passed now.passed)

-- what the end of the units, or the cause that stopped the run among them, says of the input, of the output and of the directory
abbrev pub EndSeen : Result (Unit {0}) Stop → (start : Start) → (input : List ℕ) → (left : Option (List ℕ)) → (server : Single) → (output now : Held)
    → (first states : Option (List Disk)) → Type 0
EndSeen (Ok done) start input left server output now first states = WroteAll start input left server output now first states
EndSeen (Err (BadInput at)) start input left server output now first states = WroteAll start input left server output now first states
EndSeen (Err stop) start input left server output now first states = UnitsSeen (status_of_stop stop) start input left output now first states

-- the units ended so: what this says of the input, of the output and of the directory
pub record LastStep (ended : Result (Unit {0}) Stop) (input : List ℕ) (left : Option (List ℕ)) (server after : Single) (units : List InputUnit)
    (old new : Held) (states now : Option (List Disk)) : Type 0 where
  pub place : PlaceSeen (status_of ended) input left
  pub output : (start : Start) (output : Held) (first : Option (List Disk)) → Wrote start server units output old first states
      → EndSeen ended start input left after output new first now

-- one unit more was answered, by this output
pub record WritesUnit (start : Start) (node : Single) (units : List InputUnit) (earlier : History) (unit : InputUnit) (output : List ℕ) (old states : Option (List Disk)) : Type 0 where
  pub sent : List OutUnit
  pub answered : AnswersUnit start node units earlier unit sent old states
  pub text : output ≡ units_text sent

-- one unit more was read and answered
pub record NextStep (input waiting left : List ℕ) (place : ℕ) (server after : Single) (units : List InputUnit)
    (old new : Held) (states now : Option (List Disk)) : Type 0 where
  pub unit : InputUnit
  pub consumed : Consumed input waiting left place (units ++ unit ∷ [])
  pub wrote : (start : Start) (output : Held) (first : Option (List Disk)) → Wrote start server units output old first states
      → Wrote start after (units ++ unit ∷ []) output new first now
