use Rattle.mx_schema.proofs.FirstStateLaws.{first_indexes_have_spaces}
use Rattle.mx_schema.proofs.SchemaChangeLaws.{have_elsewhere, have_index_put, have_index_removed, have_space_put, have_space_removed}
use Rattle.mx_schema.proofs.laws.indexes_have_spaces.Goals as goal

pub returns-clause-new_database : goal.returns-clause-new_database
returns-clause-new_database c = first_indexes_have_spaces

pub returns-clause-space_put : goal.returns-clause-space_put
returns-clause-space_put c = have_space_put

pub returns-clause-space_removed : goal.returns-clause-space_removed
returns-clause-space_removed c = have_space_removed

pub returns-clause-index_put : goal.returns-clause-index_put
returns-clause-index_put c = have_index_put

pub returns-clause-index_removed : goal.returns-clause-index_removed
returns-clause-index_removed c = have_index_removed

pub returns-clause-elsewhere : goal.returns-clause-elsewhere
returns-clause-elsewhere c = have_elsewhere
