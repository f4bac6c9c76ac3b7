use Rattle.std.proofs.Common.{◌+◌, drop, map, Result}
use Rattle.mx_schema.specs.Catalogues.{Catalogue}
use Rattle.mx_schema.specs.SchemaChecks.{JudgesIndex, RowFault, RowsMake, with_index_row}
use Rattle.mx_schema.proofs.catalogue_rows.add_indexes.Given as goal

-- what the remaining rows make of the catalogue so far, all make
abbrev pub invariant-loop-place : goal.invariant-loop-place
invariant-loop-place l = (made : Result Catalogue RowFault) → RowsMake JudgesIndex with_index_row (l.start + l.place) (drop l.place (map (λ row. row.now) l.rows)) l.catalogue made
    → RowsMake JudgesIndex with_index_row l.start (map (λ row. row.now) l.rows) l.initial.catalogue made
