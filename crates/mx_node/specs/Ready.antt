-- How engine, journal and directory agree between two units, and what the jobs of a unit make of them.
use Rattle.std.specs.Prelude.{◌≡◌, ℕ, false, List, [], ◌++◌, length, map, Option}
use Rattle.mx_outside.specs.Disks.{Disk}
use Rattle.mx_session.specs.declared.job.Job.{Job}
use Rattle.mx_session.specs.Jobs.{ends}
use Rattle.mx_session.specs.Sessions.{SessionState}
use Rattle.mx_frame.specs.Packets.{rest_of}
use Rattle.mx_model.specs.Bases.{Base}
use Rattle.mx_model.specs.Histories.{History, ledger_of, journal_of}
use Rattle.mx_serial.specs.Replies.{Told, told_now}
use Rattle.mx_serial.specs.Order.{order_in}
use Rattle.mx_serial.specs.Gate.{RepliesMayLeave}
use Rattle.mx_serial.specs.ReplyStream.{packets_of_replies}
use Rattle.mx_engine.specs.declared.engine.Engine.{Engine}
use Rattle.mx_engine.specs.Standing.{EngineStandsFor}
use Rattle.mx_journal.specs.declared.journal.Journal.{Journal}
use Rattle.mx_directory.specs.Survival.{Lasts}
use Rattle.mx_store.specs.Stores.{JournalHas}
use Rattle.mx_link.specs.Asks.{sync_of}
use Rattle.mx_node.specs.Connections.{AreOf}
use Rattle.mx_node.specs.Order.{written_out}

-- The engine stands for the history, and journal and directory have what was taken of it.
pub record Behind (base : Base) (history : History) (engine : Engine) (journal : Journal) (states : Option (List Disk)) : Type 0 where
  pub stands : EngineStandsFor engine base history
  pub has : JournalHas base history journal states

-- the same, all commits were taken, and every reply may leave
pub record Ready (base : Base) (history : History) (engine : Engine) (journal : Journal) (states : Option (List Disk)) : Type 0 where
  pub behind : Behind base history engine journal states
  pub taken : (ledger_of base history).taken ≡ length (journal_of base history)
  pub gate : RepliesMayLeave base history

-- so it is with some history
abbrev pub IsBehind : Engine → Journal → Option (List Disk) → Type 0
IsBehind engine journal states = (base : Base) × (history : History) × Behind base history engine journal states

-- These jobs were answered, in order, what they committed is durable, and their replies may leave, behind the output `before`.
pub record AnswersJobs (base : Base) (earlier : History) (engine : Engine) (journal : Journal) (old states : Option (List Disk)) (jobs : List Job) (before after : List ℕ) : Type 0 where
  pub history : History
  pub replies : List Told
  pub ready : Ready base history engine journal states
  pub since : (more : History) × (history ≡ more ++ earlier)
  pub lasts : Lasts base history old states
  pub order : order_in history ≡ order_in earlier ++ written_out jobs
  pub told : (connection : ℕ) → AreOf connection jobs → told_now base connection history ≡ told_now base connection earlier ++ replies
  pub each : length replies ≡ length jobs
  pub output : after ≡ before ++ packets_of_replies (map sync_of jobs) replies

-- all jobs of a session's bytes were taken, and no reply waits
pub record TakenAll (old new : SessionState) : Type 0 where
  pub whose : new.connection ≡ old.connection
  pub idle : new.waiting ≡ []
  pub ended : new.ended ≡ ends old.connection old.rest
  pub rest : new.ended ≡ false → new.rest ≡ rest_of old.rest
