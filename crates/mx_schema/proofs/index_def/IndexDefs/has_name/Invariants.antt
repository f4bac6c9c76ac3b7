use Rattle.std.proofs.Common.{◌≡◌, drop}
use Rattle.mx_schema.specs.SchemaChecks.{has_name}
use Rattle.mx_schema.proofs.index_def.IndexDefs.has_name.Given as goal

abbrev pub invariant-loop-def : goal.invariant-loop-def
invariant-loop-def l = has_name l.name (drop l.def-index l.self) ≡ has_name l.name l.self
