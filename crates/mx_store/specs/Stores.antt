-- What a journal and its directory have of a history.
use Rattle.std.specs.Prelude.{◌≡◌, ⊤, ℕ, true, List, [], ◌∷◌, ◌++◌, length, take, Option, Ok}
use Rattle.std.specs.FinMap as finite
use Rattle.mx_outside.specs.Disks.{Disk, IfKnown}
use Rattle.mx_row.specs.declared.tx.Tx.{Tx}
use Rattle.mx_row.specs.Rows.{IsTransaction}
use Rattle.mx_row.specs.Clocks.{clock_after, clock_after_one, follows}
use Rattle.mx_images.specs.Fair.{AllDurable}
use Rattle.mx_journal.specs.declared.journal.Journal.{Journal}
use Rattle.mx_journal.specs.Written.{IsWritten, Waits, name_of}
use Rattle.mx_model.specs.declared.ids.Ids.{Ids}
use Rattle.mx_model.specs.Bases.{Base}
use Rattle.mx_model.specs.Histories.{History, Took, Confirmed, ledger_of, journal_of}
use Rattle.mx_directory.specs.Directories.{Continues, IsDirectoryState, Origin, Reached, ids_in, ids_or}
use Rattle.mx_directory.specs.Survival.{Extend, Survive}
use Rattle.mx_recover.specs.Durability.{HasNoDraft}

-- the database that goes on from what a directory recovers to; a directory without files takes these identifiers
abbrev pub base_of : Ids → Reached → Base
base_of ids reached = record { state = reached.state; clock = reached.clock; ids = ids_or ids reached.ids; earlier = reached.transactions }

-- it goes on from what this directory recovers to, where that tells its files
abbrev pub IsBaseOf : Ids → Base → Option (List Disk) → Type 0
IsBaseOf ids base states = IfKnown states (λ disk past. (reached : Reached) × IsDirectoryState disk.now (Ok reached) × (base ≡ base_of ids reached))

-- the commits that were taken to be written
abbrev pub taken_of : Base → History → List Tx
taken_of base history = take (ledger_of base history).taken (journal_of base history)

-- Of the history's commits those that were taken are in the journal's file and durable, where the directory tells its files; the
-- journal's file begins where the other files end, and no file waits for its name.
pub record JournalHas (base : Base) (history : History) (journal : Journal) (states : Option (List Disk)) : Type 0 where
  pub begins : journal.head.clock ≡ base.clock
  pub whose : ids_in journal.head ≡ base.ids
  pub clock : journal.clock ≡ clock_after base.clock (taken_of base history)
  pub waits : Waits journal []
  pub written : IfKnown states (λ disk past. IsWritten journal disk (taken_of base history)
      × Continues base (name_of journal.head) disk.now × AllDurable disk × (disk.older ≡ finite.empty) × HasNoDraft disk)

-- each of these transactions can be written, and has the next lsns after those before it
abbrev pub AllComeNext : List ℕ → List Tx → Type 0
AllComeNext clock [] = ⊤
AllComeNext clock (tx ∷ txs) = IsTransaction tx × (follows clock tx ≡ true) × AllComeNext (clock_after_one clock tx) txs

-- no entry takes or confirms commits
abbrev pub TakesNone : History → Type 0
TakesNone [] = ⊤
TakesNone (Took transactions upto ∷ earlier) = ⊥
TakesNone (Confirmed upto ∷ earlier) = ⊥
TakesNone (_ ∷ earlier) = TakesNone earlier

-- After any crash the directory recovers at least what these first steps of the history committed.
abbrev pub StepsSurvive : Base → (history first : History) → Option (List Disk) → Type 0
StepsSurvive base history first states = (origin : Origin) (transactions : List Tx) → (all : Extend origin base history transactions)
    → IfKnown states (λ disk past. Survive origin transactions (length (all.earlier ++ journal_of base first)) disk)
