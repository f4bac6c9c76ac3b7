use Rattle.std.proofs.Common.{◌≡◌, ◌+◌, drop}
use Rattle.mx_schema.specs.RowParts.{index_place}
use Rattle.mx_schema.proofs.index_def.place_of.Given as goal

abbrev pub invariant-loop-place : goal.invariant-loop-place
invariant-loop-place l = l.place + index_place l.id.0 (drop l.place l.defs) ≡ index_place l.id.0 l.defs
