use Rattle.std.proofs.Common.{◌+◌, ◌∙◌, ap, length, [], ◌∷◌, arith}
use Rattle.std.specs.Prelude.{map}
use Rattle.std.proofs.lemmas.List.{map-append, length-append}
use Rattle.mx_operations.specs.declared.fault.ShapeFault.TheVariants.{UnknownOperator, BadArgument}
use Rattle.mx_operations.specs.Views.{operation_view}
use Rattle.mx_update.proofs.OperationLaws.{one_too_many, faulty, passes, then_from}
use Rattle.mx_update.proofs.ops.read_ops.Goals as goal

pub returns-then-place-ge-MAX_OPERATIONS : goal.returns-then-place-ge-MAX_OPERATIONS
returns-then-place-ge-MAX_OPERATIONS c =
    one_too_many _ c.loop-place.place c.in-Some.spellings.count c.loop-place.rest.now _ c.loop-place-test.true c.if-place-ge-MAX_OPERATIONS.true c.loop-place.invariant.same

pub returns-in-Err-UnknownOperator : goal.returns-in-Err-UnknownOperator
returns-in-Err-UnknownOperator c =
    let told = rw c.in-Err-UnknownOperator.field-0-is at c.in-Err-UnknownOperator.ensures in (
      c.loop-place.place,
      faulty _ c.loop-place.place c.in-Some.spellings.count c.loop-place.rest.now c.parted.result.0.now UnknownOperator _ c.loop-place-test.true
          c.if-place-ge-MAX_OPERATIONS.false c.parted.ensures.first told c.loop-place.invariant.same,
    )

pub returns-in-Err-BadArgument : goal.returns-in-Err-BadArgument
returns-in-Err-BadArgument c =
    let told = rw c.in-Err-BadArgument.field-0-is at c.in-Err-BadArgument.ensures in
    faulty _ c.loop-place.place c.in-Some.spellings.count c.loop-place.rest.now c.parted.result.0.now BadArgument _ c.loop-place-test.true
    c.if-place-ge-MAX_OPERATIONS.false c.parted.ensures.first told c.loop-place.invariant.same

pub loop-place-preserved : goal.loop-place-preserved
loop-place-preserved c =
    let items = c.in_ok-push-in-Ok.ensures.items in
    let viewed = ap (map operation_view) items ∙ map-append operation_view c.loop-place.operations.items (c.in-Ok.operation ∷ []) in
    let many = ap length items ∙ length-append c.loop-place.operations.items (c.in-Ok.operation ∷ []) in
    let counted = c.loop-place.invariant.counted in
    let few = c.if-place-ge-MAX_OPERATIONS.false in
    record {
      same =
          ap (λ l. then_from l (c.loop-place.place + 1) c.in-Some.spellings.count c.parted.result.1.now) viewed
          ∙ passes _ (operation_view c.in-Ok.operation) c.loop-place.place c.in-Some.spellings.count c.loop-place.rest.now c.parted.result.0.now c.parted.result.1.now _
          c.loop-place-test.true few c.parted.ensures.first c.parted.ensures.after c.in-Ok.ensures c.loop-place.invariant.same;
      counted = omega arith;
      few = omega arith;
    }
