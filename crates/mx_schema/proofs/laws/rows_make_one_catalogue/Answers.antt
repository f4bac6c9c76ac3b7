use Rattle.mx_schema.proofs.OnceLaws.{made_once}
use Rattle.mx_schema.proofs.laws.rows_make_one_catalogue.Goals as goal

pub returns : goal.returns
returns c = made_once
