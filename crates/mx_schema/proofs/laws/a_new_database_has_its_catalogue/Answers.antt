use Rattle.mx_schema.proofs.FirstLaws.{first_made}
use Rattle.mx_schema.proofs.FirstStateLaws.{first_catalogue}
use Rattle.mx_schema.proofs.laws.a_new_database_has_its_catalogue.Goals as goal

pub returns : goal.returns
returns c = λ result made. (_, first_made result made, first_catalogue)
