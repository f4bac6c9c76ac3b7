use Rattle.std.proofs.Common.{◌≡◌}
use Rattle.std.specs.FinMap.{values}
use Rattle.mx_schema.specs.SchemaChecks.{space_named}
use Rattle.mx_schema.proofs.catalogue.Catalogue.space_named.Given as goal

abbrev pub invariant-loop-schema : goal.invariant-loop-schema
invariant-loop-schema l = space_named l.name l.schema-iterator ≡ space_named l.name (values l.self)
