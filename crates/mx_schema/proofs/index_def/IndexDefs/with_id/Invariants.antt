use Rattle.std.proofs.Common.{◌≡◌, drop}
use Rattle.mx_schema.specs.Catalogues.{index_with}
use Rattle.mx_schema.proofs.index_def.IndexDefs.with_id.Given as goal

abbrev pub invariant-loop-def : goal.invariant-loop-def
invariant-loop-def l = index_with l.id.0 (drop l.def-index l.self) ≡ index_with l.id.0 l.self
