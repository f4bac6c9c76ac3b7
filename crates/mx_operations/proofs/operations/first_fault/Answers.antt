use Rattle.mx_operations.specs.Views.{operation_view}
use Rattle.mx_operations.proofs.RowLaws.{begins, one_too_many, faulty, passes, ends}
use Rattle.mx_operations.proofs.operations.first_fault.Goals as goal

pub loop-place-init : goal.loop-place-init
loop-place-init c = begins c.args.operations.count c.args.operations.bytes.now

pub returns-then-place-ge-MAX_OPERATIONS : goal.returns-then-place-ge-MAX_OPERATIONS
returns-then-place-ge-MAX_OPERATIONS c =
    one_too_many c.loop-place.place c.args.operations.count c.loop-place.rest.now _ c.loop-place-test.true c.if-place-ge-MAX_OPERATIONS.true c.loop-place.invariant

pub returns-in-Err : goal.returns-in-Err
returns-in-Err c =
    faulty c.loop-place.place c.args.operations.count c.loop-place.rest.now c.parted.result.0.now c.in-Err.fault _ c.loop-place-test.true c.if-place-ge-MAX_OPERATIONS.false
    c.parted.ensures.first c.in-Err.ensures c.loop-place.invariant

pub loop-place-preserved : goal.loop-place-preserved
loop-place-preserved c =
    passes c.loop-place.place c.args.operations.count c.loop-place.rest.now c.parted.result.0.now c.parted.result.1.now (operation_view c.in_default.field-0) _
    c.loop-place-test.true c.if-place-ge-MAX_OPERATIONS.false c.parted.ensures.first c.parted.ensures.after c.in_default.ensures c.loop-place.invariant

pub returns : goal.returns
returns c = ends c.loop-place.place c.args.operations.count c.loop-place.rest.now _ c.loop-place-test.false c.loop-place.invariant
