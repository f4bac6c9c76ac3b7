use Rattle.std.proofs.Common.{◌≡◌, ◌==◌, drop}
use Rattle.std.specs.List.{find}
use Rattle.mx_transactions.proofs.names.OpenNames.find_of.Given as goal

-- the first names are others
abbrev pub invariant-loop-named : goal.invariant-loop-named
invariant-loop-named l = find (λ one. one.name.conn.0 == l.connection.0) (drop l.named-index l.named-items) ≡ find (λ one. one.name.conn.0 == l.connection.0) l.named-items
