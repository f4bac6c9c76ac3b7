-- What is left where a unit can't be answered whole, or the end of the input.
use Rattle.std.proofs.Common.{◌≡◌, ℕ, Bool, List, [], ◌∷◌, ◌++◌, refl, ap, ◌∙◌, subst}
use Rattle.std.specs.Prelude.{Option}
use mathlib.Core.List.{IsPrefix}
use Rattle.mx_outside.specs.Disks.{Disk}
use Rattle.mx_model.specs.Histories.{History, IsLegal}
use Rattle.mx_serial.specs.Order.{Step, order_in}
use Rattle.mx_node.specs.declared.out_units.OutUnit.{OutUnit}
use Rattle.mx_node.specs.declared.single.Single.{Single}
use Rattle.mx_node.specs.Answering.{AnswersBeforeEnd}
use Rattle.mx_node.specs.Inputs.{InputUnit, Bytes}
use Rattle.mx_node.specs.Order.{AreStepsOf, AreWholeSteps, departure_where, departures_of}
use Rattle.mx_node.specs.Starts.{Start}
use Rattle.mx_node.specs.Serving.{Serves}
use Rattle.mx_node.specs.Interrupted.{IsInterrupted}
use Rattle.mx_directory.specs.Survival.{Lasts}
use Rattle.mx_store.specs.Stores.{StepsSurvive}
use Rattle.mx_store.proofs.StoreLaws.{keep_on}
use Rattle.mx_node.proofs.OrderLaws.{are_order, order_are-push, order_by, whole_order_are, whole_order_of}
use Rattle.mx_node.proofs.KeepLaws.{ready_keeps}
use Rattle.mx_node.proofs.LastingLaws.{breaks_as, breaks_none, breaks_now}

-- the steps for one unit more
pub unit_steps : (start : Start) (server : Single) (units : List InputUnit) (history : History) (unit : InputUnit) (states : Option (List Disk))
    → Serves start server units history states → AreStepsOf (units ++ unit ∷ []) (order_in history ++ order_by units unit)
unit_steps start server units history unit states serves =
    order_are-push units unit (order_in history ++ order_by units unit)
    (ap (λ (l : List Step). l ++ order_by units unit) (are_order units (order_in history) serves.order))

-- nothing of the unit was done
pub unit_untouched : (start : Start) (server : Single) (units : List InputUnit) (history : History) (unit : InputUnit)
    (states : Option (List Disk)) → Serves start server units history states → IsInterrupted start.base history (AreStepsOf (units ++ unit ∷ [])) states states
unit_untouched start server units history unit states serves =
    breaks_as start.base history (order_in history ++ order_by units unit) (AreStepsOf (units ++ unit ∷ [])) states states
    (unit_steps start server units history unit states serves)
    (breaks_none start.base history (order_by units unit) states serves.ready.behind.stands.legal
    (ready_keeps start.base history server.engine server.journal states serves.ready))

-- all of it was done, but its connection didn't leave
pub broken_behind : (start : Start) (old new : Single) (units : List InputUnit) (history : History) (on : ℕ) (bytes : List ℕ)
    (before after : Option (List Disk)) (output : List OutUnit) (ended : Bool) → AnswersBeforeEnd start units history on bytes old new before after output ended
    → IsInterrupted start.base history (AreStepsOf (units ++ Bytes on bytes ∷ [])) before after
broken_behind start old new units history on bytes before after output ended done =
    let order = order_in done.history ++ departure_where on ended in
    let since = done.since in
    breaks_as start.base history order (AreStepsOf (units ++ Bytes on bytes ∷ [])) before after done.order
    (breaks_now start.base since.0 history order before after
    (subst (λ h. IsLegal start.base h) since.1 done.ready.behind.stands.legal)
    (subst (λ h. IsPrefix (order_in h) order) since.1 (departure_where on ended, refl))
    (subst (λ h. Lasts start.base h before after) since.1 done.lasts)
    (subst (λ h. StepsSurvive start.base h h after) since.1 (ready_keeps start.base done.history new.engine new.journal after done.ready)))

-- all units were answered
pub end_broken : (start : Start) (server : Single) (units : List InputUnit) (history : History) (old new : Option (List Disk))
    → Serves start server units history old → Lasts start.base history old new → IsInterrupted start.base history (AreWholeSteps units) old new
end_broken start server units history old new serves lasts =
    breaks_as start.base history (whole_order_of units) (AreWholeSteps units) old new (whole_order_are units (whole_order_of units) refl)
    (breaks_now start.base [] history (whole_order_of units) old new serves.ready.behind.stands.legal
    (departures_of units, ap (λ (l : List Step). l ++ departures_of units) (are_order units (order_in history) serves.order)) lasts
    (keep_on start.base history history old new (ready_keeps start.base history server.engine server.journal old serves.ready) lasts))
