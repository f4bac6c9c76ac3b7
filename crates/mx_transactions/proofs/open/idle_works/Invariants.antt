use Rattle.std.proofs.Common.{◌≡◌, length}
use Rattle.std.specs.List.{AllByRecursion}
use Rattle.std.specs.Vec.{vec_capacity}
use Rattle.mx_txn.specs.Slots.{max_open}
use Rattle.mx_transactions.specs.Open.{WritesNothing}
use Rattle.mx_transactions.proofs.open.idle_works.Given as goal

abbrev pub invariant-loop : goal.invariant-loop
invariant-loop l = record {
  room : vec_capacity l.works ≡ max_open;
  whole : length l.works.items ≡ l.counter;
  idle : AllByRecursion WritesNothing l.works.items;
}
