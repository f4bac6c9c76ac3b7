use Rattle.mx_schema.proofs.RowsOfStateLaws.{state_catalogue}
use Rattle.mx_schema.proofs.laws.a_catalogue_is_that_of_its_state.Goals as goal

pub returns : goal.returns
returns c = state_catalogue
