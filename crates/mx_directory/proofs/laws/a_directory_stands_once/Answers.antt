use Rattle.mx_directory.proofs.OnceLaws.{stands_once}
use Rattle.mx_directory.proofs.laws.a_directory_stands_once.Goals as goal

pub returns : goal.returns
returns c = stands_once
