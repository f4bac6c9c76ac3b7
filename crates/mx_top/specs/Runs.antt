-- What a run of the program does, seen from outside.
use Rattle.std.specs.Prelude.{◌≡◌, ◌⊎◌, ⊤, ℕ, ◌-◌, ◌≤◌, List, [], ◌∷◌, ◌++◌, length, take, Option, Some, None, Err, IsSomeAnd}
use mathlib.Core.List.{IsPrefix}
use Rattle.mx_outside.specs.Disks.{Disk, IfKnown}
use Rattle.mx_outside.specs.Moments.{Moments}
use Rattle.mx_outside.specs.Passed.{IsAllOf}
use Rattle.mx_row.specs.declared.tx.Tx.{Tx}
use Rattle.mx_images.specs.Changes.{KeepsOthers}
use Rattle.mx_directory.specs.Directories.{Origin, IsDirectoryState}
use Rattle.mx_node.specs.declared.out_units.OutUnit.{OutUnit}
use Rattle.mx_model.specs.Bases.{Base}
use Rattle.mx_model.specs.Histories.{History, IsLegal, HasMemory, journal_of}
use Rattle.mx_serial.specs.Order.{Step, order_in}
use Rattle.mx_serial.specs.Gate.{RepliesMayLeave, confirmed_part}
use Rattle.mx_serial.specs.Serializability.{IsSerializable}
use Rattle.mx_directory.specs.Survival.{IsOfNode, ReadsAll, Recovers, Survive, NoFewerSurvive, ReadsMost}
use Rattle.mx_node.specs.Inputs.{InputUnit}
use Rattle.mx_node.specs.Order.{AreStepsOf, AreWholeSteps}
use Rattle.mx_node.specs.Outputs.{AnswersAll, output_for}
use Rattle.mx_node.specs.Serving.{DirectoryHolds}
use Rattle.mx_node.specs.Starts.{Start}
use Rattle.mx_top.specs.declared.status.Status.{Status}
use Rattle.mx_top.specs.declared.status.Status.TheVariants as status
use Rattle.mx_top.specs.Units.{units_of}
use Rattle.mx_top.specs.TraceOutput.{units_text}
use Rattle.mx_top.specs.Starts.{Begins}

-- ---- the input

abbrev pub place_before : List ℕ → List ℕ → Option ℕ
place_before input [] = None
place_before input (byte ∷ rest) = Some (length input - length (byte ∷ rest))

-- where the first malformed unit of an input begins, if there is one
abbrev pub fault_place : List ℕ → Option ℕ
fault_place input = place_before input (units_of input).1

-- what a status says of the input: at Ok it was well-formed and was read to its end, and a malformed unit is the first one
abbrev pub PlaceSeen : Status → (input : List ℕ) → (left : Option (List ℕ)) → Type 0
PlaceSeen status.Ok input left = (fault_place input ≡ None) × (left ≡ Some [])
PlaceSeen (status.BadInput at) input left = fault_place input ≡ Some at
PlaceSeen status.BadWords input left = left ≡ Some input
PlaceSeen (status.Damaged damage) input left = left ≡ Some input
PlaceSeen _ input left = ⊤

-- the status of a run that no fault ended
abbrev pub status_by : Option ℕ → Status
status_by None = status.Ok
status_by (Some at) = status.BadInput at

-- this holds of a run that the input stopped
abbrev pub AtReadFault : Status → Type 0 → Type 0
AtReadFault status.ReadFault P = P
AtReadFault _ P = ⊤

-- The bytes before the rest were read. The units that were answered are a prefix of those that stand whole in them, and where the
-- input failed they are all of these: a unit is answered before the bytes behind it are awaited.
pub record AnswersRead (status : Status) (units : List InputUnit) (input rest : List ℕ) : Type 0 where
  pub read : List ℕ
  pub all : input ≡ read ++ rest
  pub waiting : List InputUnit
  pub whole : (units_of read).0 ≡ units ++ waiting
  pub awaited : AtReadFault status (waiting ≡ [])

-- this holds of a run that answered all units of its input
abbrev pub AtCompletion : Status → Type 0 → Type 0
AtCompletion status.Ok P = P
AtCompletion (status.BadInput at) P = P
AtCompletion _ P = ⊤

-- these are the steps for the units, and for the next one; after the last one all connections depart
abbrev pub AreStepsUntil : (units others : List InputUnit) → List Step → Type 0
AreStepsUntil units [] = AreWholeSteps units
AreStepsUntil units (unit ∷ others) = AreStepsOf (units ++ unit ∷ [])

-- ---- the output

-- what a sink holds, and what of it was passed on, where they are known
pub record Held : Type 0 where
  pub contents : Option (List ℕ)
  pub passed : Option (List ℕ)

abbrev pub held : (contents passed : Option (List ℕ)) → Held
held contents passed = record { contents = contents; passed = passed }

-- what was passed on, where it is known, begins with these bytes
abbrev pub PassedAtLeast : (passed : Option (List ℕ)) → List ℕ → Type 0
PassedAtLeast None bytes = ⊤
PassedAtLeast (Some passed) bytes = IsPrefix bytes passed

-- The output failed at the last of these units. What was written is all that is sent for the units before it, and a prefix of
-- what is sent for it. The former was passed on, if all that the output had before was.
pub record CutOutput (start : Start) (units : List InputUnit) (answered : History) (sent : List OutUnit) (before written : List ℕ)
    (passed passed_now : Option (List ℕ)) : Type 0 where
  pub first : List InputUnit
  pub last : InputUnit
  pub all : units ≡ first ++ last ∷ []
  pub earlier : History
  pub since : (more : History) × (answered ≡ more ++ earlier)
  pub was : List OutUnit
  pub answers : AnswersAll start first earlier was
  pub grows : sent ≡ was ++ output_for start first earlier last answered
  pub whole : IsPrefix (units_text was) written
  pub part : IsPrefix written (units_text sent)
  pub flushed : IsAllOf passed (Some before) → PassedAtLeast passed_now (before ++ units_text was)

-- What was written is all that is sent for the units that were answered. Where the output failed, it may lack some of that for
-- the last one.
abbrev pub IsOutput : Status → (start : Start) → List InputUnit → (answered : History) → (sent : List OutUnit) → (before written : List ℕ)
    → (passed passed_now : Option (List ℕ)) → Type 0
IsOutput status.WriteFault start units answered sent before written passed passed_now =
    CutOutput start units answered sent before written passed passed_now
IsOutput _ start units answered sent before written passed passed_now = written ≡ units_text sent

-- each legal history that answers these units, and in which no request is out of memory, is sent this
abbrev pub IsOnlyOutput : (start : Start) → List InputUnit → (written : List ℕ) → Type 0
IsOnlyOutput start units written =
    (other : History) (sent : List OutUnit) → IsLegal start.base other → HasMemory other → AnswersAll start units other sent → written ≡ units_text sent

-- What the output has, after what it had before. Where no request of an input that was answered whole was out of memory, what
-- was written is determined by the start and the units.
pub record OutputSeen (status : Status) (start : Start) (units : List InputUnit) (answered history : History) (sent : List OutUnit)
    (before after : List ℕ) (passed passed_now : Option (List ℕ)) : Type 0 where
  pub written : List ℕ
  pub output : after ≡ before ++ written
  pub is : IsOutput status start units answered sent before written passed passed_now
  pub determined : AtCompletion status (HasMemory history → IsOnlyOutput start units written)

-- all that the output holds was passed on, if that was so before
abbrev pub StillPassedOn : (passed contents passed_now contents_now : Option (List ℕ)) → Type 0
StillPassedOn passed contents passed_now contents_now = IsAllOf passed contents → IsAllOf passed_now contents_now

-- ---- the directory

-- all commits of a run, after those that its directory had before
abbrev pub all_commits : List Tx → Base → History → List Tx
all_commits earlier base history = earlier ++ journal_of base history

-- At each moment the directory reads as a prefix of these commits, made on the origin, and after any crash it recovers no more
-- of them, and never fewer than before.
abbrev pub RecoversAlways : Origin → List Tx → (old new : Option (List Disk)) → Type 0
RecoversAlways origin commits old new =
    IfKnown old (λ disk past. Moments (λ now. Survive origin commits 0 now × ReadsMost origin commits now)
    (λ older newer. NoFewerSurvive origin commits older newer × ⊤) new disk past)

-- at each moment every file that isn't the database's is as it was
abbrev pub OthersKept : (old new : Option (List Disk)) → Type 0
OthersKept old new = IfKnown old (λ disk past. Moments (λ _. ⊤) KeepsOthers new disk past)

-- after any crash the directory recovers a prefix of these commits, and so many of them at least
abbrev pub RecoversNow : Origin → List Tx → (least : ℕ) → Option (List Disk) → Type 0
RecoversNow origin commits least new = IfKnown new (λ disk past. Survive origin commits least disk)

-- as it is, with no crash, the directory recovers a prefix of these commits, and so many of them at least
abbrev pub RecoversAsItIs : Origin → List Tx → (least : ℕ) → Option (List Disk) → Type 0
RecoversAsItIs origin commits least new =
    IfKnown new (λ disk past. (count : ℕ) × (least ≤ count) × (count ≤ length commits) × Recovers origin (take count commits) (Some (disk ∷ past)))

-- the directory is corrupt or inconsistent, by this damage, where it tells its files
abbrev pub DamageSeen : Status → Option (List Disk) → Type 0
DamageSeen (status.Damaged damage) old = IfKnown old (λ disk past. IsDirectoryState disk.now (Err damage))
DamageSeen _ old = ⊤

-- ---- the run

-- A run that opened its directory. It answered these units whole, and began none of the others but the next; one history has
-- the steps for both. Each part says the same of that history: that it is serializable, what was written, what the directory
-- recovers at each moment, and that no reply was written before all that it depends on was durable. What is acknowledged is
-- durable also in a directory that could be read but had never been synced.
pub record Served (status : Status) (seed input : List ℕ) (left : Option (List ℕ)) (output_old output_new : Held) (old new : Option (List Disk)) : Type 0 where
  pub start : Start
  pub begins : Begins start seed old
  pub units : List InputUnit
  pub others : List InputUnit
  pub all : units ++ others ≡ (units_of input).0
  pub consumed : (rest : List ℕ) → left ≡ Some rest → AnswersRead status units input rest
  -- the steps for the units that were answered whole, what is sent for them, and then the steps of the next one
  pub answered : History
  pub sent : List OutUnit
  pub later : History
  pub history : History
  pub both : history ≡ later ++ answered
  pub legal : IsLegal start.base history
  pub serializable : IsSerializable start.base history
  pub answers : AnswersAll start units answered sent
  pub steps : List Step
  pub are_steps : AreStepsUntil units others steps
  pub order_later : IsPrefix (order_in history) steps
  pub gate : RepliesMayLeave start.base answered
  pub complete : AtCompletion status ((others ≡ []) × AreWholeSteps units (order_in history))
  pub output : (before : List ℕ) → output_old.contents ≡ Some before
      → IsSomeAnd output_new.contents (λ after. OutputSeen status start units answered history sent before after output_old.passed output_new.passed)
  pub holds : AtCompletion status (IfKnown new (λ disk past. DirectoryHolds start.base history disk))
  pub whose : IfKnown new (λ disk past. IsOfNode start.base.ids disk)
  pub crash : (origin : Origin) (earlier : List Tx) → Recovers origin earlier old → RecoversAlways origin (all_commits earlier start.base history) old new
  pub acknowledged : (origin : Origin) (earlier : List Tx) → ReadsAll origin earlier old
      → RecoversNow origin (all_commits earlier start.base history) (length (all_commits earlier start.base answered)) new
  pub killed : (origin : Origin) (earlier : List Tx) → ReadsAll origin earlier old
      → RecoversAsItIs origin (all_commits earlier start.base history) (length (all_commits earlier start.base answered)) new
  pub confirmed : (origin : Origin) (earlier : List Tx) → ReadsAll origin earlier old
      → RecoversNow origin (all_commits earlier start.base history) (length (all_commits earlier start.base (confirmed_part start.base history))) new

-- A run that didn't open its directory: nothing was read, written or committed.
pub record NotOpened (input : List ℕ) (left : Option (List ℕ)) (output_old output_new : Held) (old new : Option (List Disk)) : Type 0 where
  pub consumed : left ≡ Some input
  pub output : (before : List ℕ) → output_old.contents ≡ Some before → output_new.contents ≡ Some before
  pub crash : (origin : Origin) (earlier : List Tx) → Recovers origin earlier old → RecoversAlways origin earlier old new
  pub killed : (origin : Origin) (earlier : List Tx) (least : ℕ) → Recovers origin earlier old → RecoversNow origin earlier least old
      → RecoversAsItIs origin earlier least new

-- nothing was written, and the directory is as it was
pub record Untouched (output_old output_new : Held) (old new : Option (List Disk)) : Type 0 where
  pub output : (before : List ℕ) → output_old.contents ≡ Some before → output_new.contents ≡ Some before
  pub directory : new ≡ old

-- what a status says of the output and of the directory
abbrev pub RunSeen : Status → (seed input : List ℕ) (left : Option (List ℕ)) (output_old output_new : Held) (old new : Option (List Disk)) → Type 0
RunSeen status.BadWords seed input left output_old output_new old new = Untouched output_old output_new old new
RunSeen (status.Damaged damage) seed input left output_old output_new old new = Untouched output_old output_new old new
RunSeen status.DiskFault seed input left output_old output_new old new =
    NotOpened input left output_old output_new old new ⊎ Served status.DiskFault seed input left output_old output_new old new
RunSeen status.NoMemory seed input left output_old output_new old new =
    NotOpened input left output_old output_new old new ⊎ Served status.NoMemory seed input left output_old output_new old new
RunSeen status seed input left output_old output_new old new = Served status seed input left output_old output_new old new
