use Rattle.std.proofs.Common.{◌≡◌, drop}
use Rattle.mx_transactions.specs.Open.{slot_named}
use Rattle.mx_transactions.proofs.names.OpenNames.find.Given as goal

-- the first names are others
abbrev pub invariant-loop-named : goal.invariant-loop-named
invariant-loop-named l = slot_named l.name (drop l.named-index l.named-items) ≡ slot_named l.name l.named-items
