use Rattle.std.proofs.Common.{drop, map, Result}
use Rattle.mx_schema.specs.Catalogues.{Catalogue}
use Rattle.mx_schema.specs.SchemaChecks.{JudgesSpace, RowFault, RowsMake, with_space}
use Rattle.mx_schema.proofs.catalogue_rows.add_spaces.Given as goal

-- what the remaining rows make of the catalogue so far, all make
abbrev pub invariant-loop-place : goal.invariant-loop-place
invariant-loop-place l = (made : Result Catalogue RowFault) → RowsMake JudgesSpace with_space l.place (drop l.place (map (λ row. row.now) l.rows)) l.catalogue made
    → RowsMake JudgesSpace with_space 0 (map (λ row. row.now) l.rows) l.initial.catalogue made
