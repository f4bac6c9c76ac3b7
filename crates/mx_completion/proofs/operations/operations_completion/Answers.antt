use Rattle.mx_completion.specs.declared.leading.Kind.TheVariants as kind
use Rattle.mx_completion.specs.OperationForms.{AreFewOperations}
use Rattle.mx_completion.proofs.CountedLaws.{counted_none}
use Rattle.mx_completion.proofs.OperationCompletions.{array_cut, array_not_cut, array_full, array_not_full}
use Rattle.mx_completion.proofs.OperationSpellings.{operations_complete}
use Rattle.mx_completion.proofs.operations.operations_completion.Goals as goal

pub returns-then-count : goal.returns-then-count
returns-then-count c =
    let arm = c.in-Some-Cut in
    operations_complete c.args.bytes.now _ (array_not_cut c.args.bytes.now arm.count arm.missing (rw arm.field-0-is at arm.ensures.announces) c.if-count.true)

pub returns-then-count-2 : goal.returns-then-count-2
returns-then-count-2 c =
    let arm = c.in-Some-Full in
    operations_complete c.args.bytes.now _ (array_not_full c.args.bytes.now arm.count arm.size (rw arm.field-0-is at arm.ensures.announces) c.if-count-2.true)

pub returns-else-count : goal.returns-else-count
returns-else-count c =
    let arm = c.in-Some-Cut in
    operations_complete c.args.bytes.now _ (array_cut c.args.bytes.now arm.count arm.missing (rw arm.field-0-is at arm.ensures.announces) c.if-count.false)

pub returns-else-count-2 : goal.returns-else-count-2
returns-else-count-2 c =
    let arm = c.in-Some-Full in
    rw c.longer.ensures
    (operations_complete c.args.bytes.now _ (array_full c.args.bytes.now arm.count arm.size (rw arm.field-0-is at arm.ensures.announces) c.row_completion.result c.if-count-2.false (rw (← c.split_at.ensures.back) c.row_completion.ensures)))

pub returns-in-None : goal.returns-in-None
returns-in-None c =
    operations_complete c.args.bytes.now _
    (counted_none kind.Array AreFewOperations c.args.bytes.now c.in-None.ensures.announces)
