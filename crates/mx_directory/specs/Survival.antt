-- Which of a database's commits survive a crash.
use Rattle.std.specs.Prelude.{◌≡◌, ⊤, ℕ, ◌≤◌, List, ◌++◌, length, take, Option, Some, Ok}
use mathlib.Core.List.{IsPrefix}
use Rattle.mx_vclock.specs.Vclocks.{IsVclock}
use Rattle.mx_outside.specs.Disks.{Disk, Files, IfKnown, KnownAlike}
use Rattle.mx_outside.specs.Moments.{Moments}
use Rattle.mx_row.specs.declared.tx.Tx.{Tx}
use Rattle.mx_model.specs.declared.ids.Ids.{Ids}
use Rattle.mx_model.specs.Transactions.{state_after}
use Rattle.mx_row.specs.Clocks.{clock_after}
use Rattle.mx_directory.specs.Directories.{Reached, Origin, IsDirectoryState, AllFollow}
use Rattle.mx_model.specs.Bases.{Base}
use Rattle.mx_model.specs.Histories.{History, journal_of}
use Rattle.mx_images.specs.Fair.{IsFair}

-- the files have exactly these transactions, and recover to what these make of the origin
pub record StandsAfter (origin : Origin) (transactions : List Tx) (files : Files) : Type 0 where
  pub reached : Reached
  pub stands : IsDirectoryState files (Ok reached)
  pub made : reached.transactions ≡ transactions
  pub state : reached.state ≡ state_after origin.state transactions
  pub clock : reached.clock ≡ clock_after origin.clock transactions

-- After any crash the directory recovers to a prefix of these transactions, which has at least `least` of them.
abbrev pub Survive : Origin → List Tx → ℕ → Disk → Type 0
Survive origin transactions least disk =
    (image : Files) → IsFair disk image → (count : ℕ) × (least ≤ count) × (count ≤ length transactions) × StandsAfter origin (take count transactions) image

-- no fewer survive than before: each bound that held still holds
abbrev pub NoFewerSurvive : Origin → List Tx → Disk → Disk → Type 0
NoFewerSurvive origin transactions older newer = (least : ℕ) → Survive origin transactions least older → Survive origin transactions least newer

-- The directory reads as a prefix of these transactions, and after any crash recovers no more of them than it reads.
pub record ReadsMost (origin : Origin) (transactions : List Tx) (disk : Disk) : Type 0 where
  pub count : ℕ
  pub within : count ≤ length transactions
  pub reads : StandsAfter origin (take count transactions) disk.now
  pub most : (image : Files) → IsFair disk image → (fewer : ℕ) × (fewer ≤ count) × StandsAfter origin (take fewer transactions) image

-- the origin's vclock is one, and each of these can be written and follows those before it, from the origin on
pub record FollowFrom (origin : Origin) (transactions : List Tx) : Type 0 where
  pub clock : IsVclock origin.clock
  pub each : AllFollow origin.state origin.clock transactions

-- The directory recovers to these transactions, made on the origin, and any crash image of it to a prefix of them. This holds
-- of a new directory from a new database on, and of any crash image of a run.
pub record Recovers (origin : Origin) (transactions : List Tx) (states : Option (List Disk)) : Type 0 where
  pub follow : FollowFrom origin transactions
  pub told : IfKnown states (λ disk past. StandsAfter origin transactions disk.now × Survive origin transactions 0 disk)

-- The directory reads as these transactions, made on the origin. Of what a crash would leave of it nothing is said, so it may be
-- a copy that nobody synced.
pub record ReadsAll (origin : Origin) (transactions : List Tx) (states : Option (List Disk)) : Type 0 where
  pub follow : FollowFrom origin transactions
  pub told : IfKnown states (λ disk past. StandsAfter origin transactions disk.now)

-- these transactions came from the origin to the base, whose files had them
pub record ComeTo (origin : Origin) (transactions : List Tx) (base : Base) : Type 0 where
  pub made : base.earlier ≡ transactions
  pub state : state_after origin.state transactions ≡ base.state
  pub clock : clock_after origin.clock transactions ≡ base.clock

-- All transactions of a database from the origin on: those that came to the base, then the history's, and perhaps others
pub record Extend (origin : Origin) (base : Base) (history : History) (transactions : List Tx) : Type 0 where
  pub earlier : List Tx
  pub comes : ComeTo origin earlier base
  pub prefix : IsPrefix (earlier ++ journal_of base history) transactions
  pub follow : FollowFrom origin transactions

-- whatever a crash leaves of the directory, it recovers to a database of the node with these identifiers
abbrev pub IsOfNode : Ids → Disk → Type 0
IsOfNode ids disk = (image : Files) → IsFair disk image → (reached : Reached) × IsDirectoryState image (Ok reached) × (reached.ids ≡ Some ids)

-- The directory's files are known if they were. At each moment between, any crash image recovers to a prefix of the
-- transactions, and never to fewer than before; the directory itself reads as a prefix of them, and no crash image has more; and
-- the node keeps its identifiers.
pub record Lasts (base : Base) (history : History) (old new : Option (List Disk)) : Type 0 where
  pub told : KnownAlike old new
  pub moments : (origin : Origin) (transactions : List Tx) → Extend origin base history transactions
      → IfKnown old (λ disk past. Moments (Survive origin transactions 0) (NoFewerSurvive origin transactions) new disk past)
  pub reads : (origin : Origin) (transactions : List Tx) → Extend origin base history transactions
      → IfKnown old (λ disk past. Moments (ReadsMost origin transactions) (λ _ _. ⊤) new disk past)
  pub whose : IfKnown old (λ disk past. Moments (IsOfNode base.ids) (λ _ _. ⊤) new disk past)
