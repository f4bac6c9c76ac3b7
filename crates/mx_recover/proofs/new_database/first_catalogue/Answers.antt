use Rattle.std.proofs.Common.{Ok, sym, subst}
use Rattle.mx_schema.specs.Bootstrap.{first_state}
use Rattle.mx_schema.specs.Catalogues.{Catalogue, IsCatalogueOf}
use Rattle.mx_recover.proofs.FirstRowLaws.{same_answer}
use Rattle.mx_recover.proofs.new_database.first_catalogue.Goals as goal

pub returns-in-Ok : goal.returns-in-Ok
returns-in-Ok c =
    let made = rw (c.first_space_rows.ensures, c.first_index_rows.ensures) at c.in-Ok.ensures in
    let (catalogue, is, whole) = c.a_new_database_has_its_catalogue.ensures (Ok c.in-Ok.catalogue) made in
    subst (λ (all : Catalogue). IsCatalogueOf all first_state) (sym (same_answer c.in-Ok.catalogue catalogue is)) whole
