use Rattle.std.proofs.Common.{◌≡◌, List}
use Rattle.std.specs.List.{AllZip}
use Rattle.mx_model.specs.Overlaps.{Transaction}
use Rattle.mx_slow.specs.Slow.{KeepsTransaction}
use Rattle.mx_slow.proofs.SlowNameLaws.{PartFound}
use Rattle.mx_slow.proofs.slow.transactions.place_of.Given as goal

-- the first transactions have other names
abbrev pub invariant-loop-one : goal.invariant-loop-one
invariant-loop-one l =
    (l.place ≡ l.one-index) × ((plain : List Transaction) → AllZip KeepsTransaction l.all plain → PartFound l.name plain l.one-index)
