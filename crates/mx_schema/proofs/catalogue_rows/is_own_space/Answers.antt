use Rattle.std.proofs.Common.{◌∙◌, arith, sym}
use Rattle.mx_schema.proofs.OwnLaws.{other_space}
use Rattle.mx_schema.proofs.catalogue_rows.is_own_space.Goals as goal

pub returns-then-not-names_first_space : goal.returns-then-not-names_first_space
returns-then-not-names_first_space c =
    other_space c.args.row.now (λ i. omega (arith, c.type_inv.row i)) c.args.tuple.now.fields c.requires (sym c.names_first_space.ensures ∙ c.if-not-names_first_space.true)
