-- What a server has done for the units so far.
use Rattle.std.specs.Prelude.{◌≡◌, ℕ, suc, ◌≤◌, Bool, false, not, List, [], ◌∷◌, ◌++◌, length, slice_index_or, sum, Option, Some, None, IfSome, if◌then◌else◌, Ok}
use Rattle.std.specs.FinMap as finite
use Rattle.std.specs.List.{filter}
use Rattle.mx_outside.specs.Disks.{Disk, IfKnown, synced_file}
use Rattle.mx_xlog.specs.Blocks.{end_marker}
use Rattle.mx_files.specs.Names.{is_journal, journal_name}
use Rattle.mx_frame.specs.Packets.{rest_of}
use Rattle.mx_session.specs.Jobs.{ends}
use Rattle.mx_session.specs.Sessions.{SessionState}
use Rattle.mx_model.specs.Bases.{Base}
use Rattle.mx_model.specs.Histories.{History, Left, IsLegal, clock_of, journal_of, state_of}
use Rattle.mx_serial.specs.Replies.{told_in}
use Rattle.mx_serial.specs.Order.{order_in}
use Rattle.mx_node.specs.declared.single.Single.{Single}
use Rattle.mx_node.specs.Inputs.{InputUnit, max_connection}
use Rattle.mx_node.specs.Connections.{came_on}
use Rattle.mx_node.specs.Order.{AreStepsFor, AreStepsOf, AreWholeSteps}
use Rattle.mx_node.specs.Starts.{Start, start_greeting}
use Rattle.mx_node.specs.Outputs.{output_for}
use Rattle.mx_node.specs.declared.out_units.OutUnit.{OutUnit}
use Rattle.mx_link.specs.Links.{Answer, HasLink}
use Rattle.mx_node.specs.Ready.{Behind, Ready}
use Rattle.mx_node.specs.Tables.{IsTable, session_at}
use Rattle.mx_directory.specs.Survival.{Lasts}
use Rattle.mx_directory.specs.Directories.{Reached, IsDirectoryState}
use Rattle.mx_images.specs.Fair.{AllDurable}
use Rattle.mx_recover.specs.Durability.{HasNoDraft}

-- the journal that goes on from the base is the last one, and was ended in order: the marker is the end of its file
pub record HasEndMarker (base : Base) (disk : Disk) : Type 0 where
  pub earlier : List (List ℕ)
  pub last : filter is_journal (finite.keys disk.now) ≡ earlier ++ journal_name (sum base.clock) ∷ []
  pub text : List ℕ
  pub ends : finite.get disk.now (journal_name (sum base.clock)) ≡ Some (synced_file (text ++ end_marker))

-- The directory recovers to what the history has come to, and has its transactions behind those that it had. All of its journals and
-- names are durable, no file waits for its name, and the last journal was ended in order.
pub record DirectoryHolds (base : Base) (history : History) (disk : Disk) : Type 0 where
  pub reached : Reached
  pub stands : IsDirectoryState disk.now (Ok reached)
  pub ids : reached.ids ≡ Some base.ids
  pub state : reached.state ≡ state_of base history
  pub clock : reached.clock ≡ clock_of base history
  pub transactions : reached.transactions ≡ base.earlier ++ journal_of base history
  pub synced : AllDurable disk
  pub names : disk.older ≡ finite.empty
  pub drafts : HasNoDraft disk
  pub marker : HasEndMarker base disk

-- The session of a connection on which these bytes came: none of its replies waits or is to be sent, and the bytes after the
-- whole packets wait, unless one of these ended the connection.
pub record Attends (connection : ℕ) (came : List ℕ) (session : SessionState) : Type 0 where
  pub whose : session.connection ≡ connection
  pub idle : session.waiting ≡ []
  pub sent : session.out ≡ []
  pub ended : session.ended ≡ ends connection came
  pub rest : session.ended ≡ false → session.rest ≡ rest_of came

abbrev pub IsSome : (connection : ℕ) → (came : List ℕ) → Option SessionState → Type 0
IsSome connection came None = ⊥
IsSome connection came (Some session) = Attends connection came session

-- the session of a connection, and none where no byte came on it
abbrev pub HasSession : (connection : ℕ) → (came : List ℕ) → Option SessionState → Type 0
HasSession connection [] found = found ≡ None
HasSession connection (byte ∷ bytes) found = IsSome connection (byte ∷ bytes) found

-- something came on the session's connection, and was answered so far
abbrev pub IsLinked : Base → History → SessionState → Type 0
IsLinked base history session = (answers : List Answer) × (greeting : List ℕ) × (came : List ℕ) × (gone : List ℕ)
    × HasLink base history answers greeting came gone session

-- engine, journal and directory agree after some history, each connection has its place, and each session agrees with the history
pub record CanServe (server : Single) (states : Option (List Disk)) : Type 0 where
  pub base : Base
  pub history : History
  pub behind : Behind base history server.engine server.journal states
  pub table : IsTable server.sessions.items
  pub links : (connection : ℕ) → IfSome (session_at server.sessions.items connection) (IsLinked base history)

-- The open connections of a table leave, the first place being this connection's: what the history comes to.
abbrev pub left_from : (connection : ℕ) → List (Option SessionState) → History → History
left_from connection [] history = history
left_from connection (None ∷ others) history = left_from (suc connection) others history
left_from connection (Some session ∷ others) history =
    left_from (suc connection) others (if session.ended then history else Left connection ∷ history)

-- The server has answered the jobs of these units, and keeps a session for each connection that they opened and didn't close.
pub record Serves (start : Start) (server : Single) (units : List InputUnit) (history : History) (states : Option (List Disk)) : Type 0 where
  pub greeting : server.greeting ≡ start_greeting start
  pub ready : Ready start.base history server.engine server.journal states
  pub order : AreStepsOf units (order_in history)
  pub table : IsTable server.sessions.items
  pub sessions : (connection : ℕ) → connection ≤ max_connection → HasSession connection (came_on connection units) (session_at server.sessions.items connection)

-- one unit more was answered, and this is sent for it
pub record AnswersUnit (start : Start) (server : Single) (units : List InputUnit) (earlier : History) (unit : InputUnit) (sent : List OutUnit) (old states : Option (List Disk)) : Type 0 where
  pub more : History
  pub history : History
  pub since : history ≡ more ++ earlier
  pub order : AreStepsFor units unit (order_in more)
  pub lasts : Lasts start.base history old states
  pub serves : Serves start server (units ++ unit ∷ []) history states
  pub is : sent ≡ output_for start units earlier unit history

-- The open connections left, and the journal was ended in order.
pub record EndedNode (start : Start) (units : List InputUnit) (earlier : History) (old states : Option (List Disk)) : Type 0 where
  pub history : History
  pub since : (more : History) × (history ≡ more ++ earlier)
  pub legal : IsLegal start.base history
  pub order : AreWholeSteps units (order_in history)
  pub told : told_in start.base history ≡ told_in start.base earlier
  pub lasts : Lasts start.base history old states
  pub keeps : IfKnown states (λ disk past. DirectoryHolds start.base history disk)
