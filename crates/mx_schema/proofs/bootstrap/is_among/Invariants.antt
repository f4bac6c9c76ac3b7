use Rattle.std.proofs.Common.{◌≡◌, drop, map}
use Rattle.mx_schema.specs.RowParts.{is_among}
use Rattle.mx_schema.proofs.bootstrap.is_among.Given as goal

abbrev pub invariant-loop-row : goal.invariant-loop-row
invariant-loop-row l = is_among l.wanted (drop l.row-index (map (λ row. row.now) l.rows)) ≡ is_among l.wanted (map (λ row. row.now) l.rows)
