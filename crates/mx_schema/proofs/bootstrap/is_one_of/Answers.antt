use Rattle.std.proofs.Common.{◌∙◌, ap, map}
use Rattle.mx_schema.specs.RowParts.{is_among}
use Rattle.mx_schema.proofs.BootstrapLaws.{tells}
use Rattle.mx_schema.proofs.bootstrap.is_one_of.Goals as goal

pub returns-in-Some : goal.returns-in-Some
returns-in-Some c = λ values same.
    let rows = map (λ row. row.now) c.args.rows.now in
    let found = rw c.in-Some.is at c.in_ok-spelling.ensures in
    tells values c.args.row.now found.0 found.1 rows same c.is_among.result
    (c.is_among.ensures ∙ ap (λ wanted. is_among wanted rows) (c.as_slice.ensures ∙ found.2))
