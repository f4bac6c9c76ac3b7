use Rattle.std.proofs.Common.{ℕ, length}
use Rattle.mx_model.specs.Streams.{Streams}
use Rattle.mx_transactions.specs.Open.{HoldsOpen}
use Rattle.mx_transactions.specs.OpenSteps.{IsTrimmed, KeepsNoOthers, KeepsNoUnread}
use Rattle.mx_transactions.proofs.EndLaws.{HasLeft}
use Rattle.mx_transactions.proofs.open.OpenTransactions.leave.Given as goal

-- some of the connection have ended
abbrev pub invariant-loop-named : goal.invariant-loop-named
invariant-loop-named l = record {
  left : (streams : Streams) → HoldsOpen streams l.initial.self → HasLeft l.connection.0 streams l.self;
  kept : KeepsNoOthers l.initial.self.kept l.self.kept;
  trimmed : IsTrimmed l.initial.self → IsTrimmed l.self;
  unread : (slot : ℕ) → KeepsNoUnread l.initial.self l.self slot;
}

abbrev pub decreases-loop-named : goal.decreases-loop-named
decreases-loop-named l = length l.self.names
