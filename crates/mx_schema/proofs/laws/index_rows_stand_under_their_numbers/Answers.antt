use Rattle.mx_schema.proofs.FirstStateLaws.{first_rows_stand}
use Rattle.mx_schema.proofs.RowsOfStateLaws.{made_rows_stand}
use Rattle.mx_schema.proofs.SchemaChangeLaws.{rows_stand_elsewhere, rows_stand_put, rows_stand_removed}
use Rattle.mx_schema.proofs.laws.index_rows_stand_under_their_numbers.Goals as goal

pub returns-clause-new_database : goal.returns-clause-new_database
returns-clause-new_database c = first_rows_stand

pub returns-clause-made : goal.returns-clause-made
returns-clause-made c = made_rows_stand

pub returns-clause-put : goal.returns-clause-put
returns-clause-put c = rows_stand_put

pub returns-clause-removed : goal.returns-clause-removed
returns-clause-removed c = rows_stand_removed

pub returns-clause-elsewhere : goal.returns-clause-elsewhere
returns-clause-elsewhere c = rows_stand_elsewhere
