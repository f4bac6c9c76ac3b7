-- What is left where a call stops in the middle.
use Rattle.std.specs.Prelude.{List, ◌++◌, Option}
use mathlib.Core.List.{IsPrefix}
use Rattle.mx_outside.specs.Disks.{Disk}
use Rattle.mx_model.specs.Bases.{Base}
use Rattle.mx_model.specs.Histories.{History, IsLegal}
use Rattle.mx_serial.specs.Order.{Step, order_in}
use Rattle.mx_serial.specs.Gate.{confirmed_part}
use Rattle.mx_directory.specs.Survival.{Lasts}
use Rattle.mx_store.specs.Stores.{StepsSurvive}

-- A call stopped after this history, and made perhaps some steps more: with those before, a prefix of what the steps may be. What
-- the history committed is durable, and so is all that is confirmed.
pub record IsInterrupted (base : Base) (history : History) (AreSteps : List Step → Type 0) (old new : Option (List Disk)) : Type 0 where
  pub later : History
  pub legal : IsLegal base (later ++ history)
  pub steps : List Step
  pub are : AreSteps steps
  pub ordered : IsPrefix (order_in (later ++ history)) steps
  pub lasts : Lasts base (later ++ history) old new
  pub keep : StepsSurvive base (later ++ history) history new
  pub confirmed : StepsSurvive base (later ++ history) (confirmed_part base (later ++ history)) new
