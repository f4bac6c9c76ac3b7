use Rattle.std.proofs.Common.{None, Some, arith}
use Rattle.mx_schema.proofs.MakeLaws.{first_index, no_index_row}
use Rattle.mx_schema.proofs.OwnLaws.{no_index}
use Rattle.mx_schema.proofs.catalogue_rows.judged_index.Goals as goal

pub returns-in_default : goal.returns-in_default
returns-in_default c =
    let none = rw c.in_default.is at c.in_ok-tuple.ensures in
    no_index_row c.args.catalogue.now c.args.row.now (no_index c.args.row.now (λ i. omega (arith, c.type_inv.row i)) none) none

pub returns-in-Some-2 : goal.returns-in-Some-2
returns-in-Some-2 c =
    first_index c.args.catalogue.now c.args.row.now c.in_ok-is_own_index.field-0 c.in_ok-is_own_index.ensures c.if-not-branch.false c.in-Some.tuple.fields
    (rw c.in-Some.is at c.in_ok-tuple.ensures) (Some c.in-Some-2.index) (rw c.in-Some-2.is at c.in_ok-index.ensures)

pub returns : goal.returns
returns c =
    first_index c.args.catalogue.now c.args.row.now c.in_ok-is_own_index.field-0 c.in_ok-is_own_index.ensures c.if-not-branch.false c.in-Some.tuple.fields
    (rw c.in-Some.is at c.in_ok-tuple.ensures) None (rw c.in-None.is at c.in_ok-index.ensures)
