-- What a turn of the journal makes of a history.
use Rattle.std.specs.Prelude.{◌≡◌, ℕ, List, [], ◌∷◌, ◌++◌, length, Option}
use Rattle.mx_outside.specs.Disks.{Disk}
use Rattle.mx_row.specs.declared.tx.Tx.{Tx}
use Rattle.mx_journal.specs.declared.journal.Journal.{Journal}
use Rattle.mx_model.specs.Bases.{Base}
use Rattle.mx_model.specs.Histories.{Confirmed, History, IsLegal, Took}
use Rattle.mx_store.specs.Stores.{JournalHas, TakesNone}
use Rattle.mx_instance.specs.Passes.{AddsStep, Seen}

-- What was committed up to so many steps was taken, written out and confirmed. Others added steps before the take and until the
-- confirmation. The journal has all that was taken.
pub record TakesTurn (base : Base) (old new : Seen) (journal : Journal) (states : Option (List Disk)) (upto : ℕ) : Type 0 where
  pub others : History
  pub later : History
  pub txs : List Tx
  pub none : TakesNone others
  pub none_later : TakesNone later
  pub same : (new.base ≡ old.base) × (new.first ≡ old.first) × (new.parts ≡ old.parts) × (new.seats ≡ old.seats)
  pub seen : new.seen ≡ Confirmed upto ∷ (later ++ Took txs upto ∷ (others ++ old.seen))
  pub mine : new.mine ≡ old.mine
  pub own : new.own ≡ (old.own ++ upto ∷ []) ++ length (later ++ Took txs upto ∷ (others ++ old.seen)) ∷ []
  pub reached : upto ≡ length (others ++ old.seen)
  pub legal : IsLegal base new.seen
  pub has : JournalHas base new.seen journal states

-- it was taken, and nothing was confirmed
pub record TakesAlone (old new : Seen) : Type 0 where
  pub txs : List Tx
  pub upto : ℕ
  pub takes : AddsStep (Took txs upto) old new
