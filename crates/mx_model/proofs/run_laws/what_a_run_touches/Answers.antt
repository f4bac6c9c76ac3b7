use Rattle.mx_model.proofs.RunSchemaLaws.{carried_schemas}
use Rattle.mx_model.proofs.RunTouchLaws.{carried_meets, run_touches}
use Rattle.mx_model.proofs.run_laws.what_a_run_touches.Goals as goal

pub returns-clause-touches : goal.returns-clause-touches
returns-clause-touches c = run_touches

pub returns-clause-schemas : goal.returns-clause-schemas
returns-clause-schemas c = carried_schemas

pub returns-clause-meets : goal.returns-clause-meets
returns-clause-meets c = carried_meets
