use Rattle.std.proofs.Common.{◌≡◌, ◌≢◌, ◌≤◌, ◌<◌, ◌-◌, ℕ, Some, true}
use Rattle.std.specs.Prelude.{slice_get}
use Rattle.std.specs.FinMap.{get}
use Rattle.mx_tracker.specs.Marks.{is_marked}
use Rattle.mx_txn.specs.declared.state.TxnState.TheVariants.{Active}
use Rattle.mx_transactions.specs.declared.work.Work.{Work}
use Rattle.mx_transactions.specs.OpenSteps.{has_rows}
use Rattle.mx_transactions.proofs.open.OpenTransactions.gives_view.Given as goal

abbrev pub invariant-loop-slot : goal.invariant-loop-slot
invariant-loop-slot l = record {
  within : l.from ≤ 1024;
  seen : (slot since : ℕ) → slot < l.from → Some slot ≢ l.committing → get l.self.slots slot ≡ Some (Active since) → is_marked l.marks slot ≡ true
      → (work : Work) → slice_get l.self.works slot ≡ Some work → has_rows work ≡ true;
}

abbrev pub decreases-loop-slot : goal.decreases-loop-slot
decreases-loop-slot l = 1024 - l.from
