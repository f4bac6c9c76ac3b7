use Rattle.mx_schema.proofs.SchemaChangeLaws.{index_row_put, index_row_removed, new_space_put, space_row_put, space_row_removed}
use Rattle.mx_schema.proofs.laws.rows_change_the_schema.Goals as goal

pub returns-clause-space_put : goal.returns-clause-space_put
returns-clause-space_put c = space_row_put

pub returns-clause-new_space : goal.returns-clause-new_space
returns-clause-new_space c = new_space_put

pub returns-clause-space_removed : goal.returns-clause-space_removed
returns-clause-space_removed c = space_row_removed

pub returns-clause-index_put : goal.returns-clause-index_put
returns-clause-index_put c = index_row_put

pub returns-clause-index_removed : goal.returns-clause-index_removed
returns-clause-index_removed c = index_row_removed
